-- The rows of all operations make the certificate.
use Rattle.std.proofs.Common.{◌≡◌, ℕ, ◌+◌, ◌≤◌, Bool, false, None, List, [], ◌∷◌, map, length, refl, ap, ◌∙◌, subst, sym, arith}
use Rattle.board_table.specs.declared.board.Board.{Board}
use Rattle.certificate.specs.declared.cert.FunctionRow.{FunctionRow}
use Rattle.certificate.specs.declared.cert.PointRow.{PointRow}
use Rattle.certificate.specs.declared.cert.StretchRow.{StretchRow}
use Rattle.certificate.specs.Grammar.{IsCertificate}
use Rattle.certificate.specs.Rows.{Certificate, Function, Point, certificate_from, function_of, point_of}
use Rattle.flow_graph.specs.declared.nodes.Node.{Node}
use Rattle.op_cost.specs.Templates.{Homes}
use Rattle.emit_templates.specs.Placed.{home_in}
use Rattle.cert_templates.specs.Frames.{Position, bytes_of_all, certificate_of, points_from, stretch_rows}
use Rattle.emit_certs.specs.Standing.{HaveHomes, still}
use Rattle.emit_certs.proofs.Ruled.{AllFine, is_certificate}

still-length : (heads : ℕ → Bool) (xs : List Node) → length (still heads xs) ≡ length xs
still-length heads [] = refl
still-length heads (x ∷ xs) = let e = still-length heads xs in omega (arith, e)

still_fine : (heads : ℕ → Bool) (places : List ℕ) (xs : List Node) → HaveHomes places xs → AllFine (still heads xs)
still_fine heads places [] h = tt
still_fine heads places (x ∷ xs) h = (h.0.1, still_fine heads places xs h.1)

module _ (b : Board) (homes : Homes) (qs : List Position) (functions : List FunctionRow) (stretches : List StretchRow) (points : List PointRow) (end : ℕ)
    (fs : map function_of functions ≡ record { start = 0x8012; end = end; height = 1; flat = None } ∷ [])
    (ss : stretches ≡ stretch_rows b homes 0x8012 qs) (ps : map point_of points ≡ points_from b homes 0x8012 0 0x8012 false qs) (e : end ≡ 0x8012 + bytes_of_all homes qs) where
  abbrev made : List Function → List StretchRow → List Point → Certificate
  made f s p = record { budget = b.budget; functions = f; stretches = s; points = p }

  pub joined : certificate_from b.budget functions stretches points ≡ certificate_of b homes qs
  joined =
      ap (λ (f : List Function). made f stretches (map point_of points)) fs
      ∙ (ap (λ n. made (record { start = 0x8012; end = n; height = 1; flat = None } ∷ []) stretches (map point_of points)) e
      ∙ (ap (λ (s : List StretchRow). made (record { start = 0x8012; end = 0x8012 + bytes_of_all homes qs; height = 1; flat = None } ∷ []) s (map point_of points)) ss
      ∙ ap (λ (p : List Point). made (record { start = 0x8012; end = 0x8012 + bytes_of_all homes qs; height = 1; flat = None } ∷ []) (stretch_rows b homes 0x8012 qs) p) ps))

  pub ruled : length qs ≤ 4096 → 0x8012 + bytes_of_all homes qs ≤ 0xFF80 → AllFine qs → IsCertificate (certificate_from b.budget functions stretches points)
  ruled few room fine = subst (λ (c : Certificate). IsCertificate c) (sym joined) (is_certificate b homes qs few room fine)

pub few_still : (heads : ℕ → Bool) (xs : List Node) → length xs ≤ 4096 → length (still heads xs) ≤ 4096
few_still heads xs h = let e = still-length heads xs in omega (arith, e, h)

pub fine_still : (heads : ℕ → Bool) (places : List ℕ) (xs : List Node) → HaveHomes places xs → AllFine (still heads xs)
fine_still heads places xs h = still_fine heads places xs h
