-- Code that is timed one instruction after another.
use Rattle.std.proofs.Common.{◌≡◌, ℕ, ◌+◌, List, [], ◌∷◌, ◌++◌, map, length, sym, ap, ◌∙◌}
use Rattle.std.proofs.lemmas.List.{append_assoc, length-append, map-append}
use Rattle.msp430_isa.specs.declared.instr.Instr.{Instr}
use Rattle.flow_graph.specs.declared.graph.OpKind.{OpKind}
use Rattle.op_cost.specs.Templates.{Counted}
use Rattle.emit_certs.specs.Timed.{code_in, counted, timed_from, times_in}
use Rattle.emit_certs.specs.declared.code.Timed.{Timed}

module _ (k : OpKind) (i : Instr) (left rest : List Instr) (left_is : left ≡ i ∷ rest) where
  abbrev timing : Instr → ℕ → Counted
  timing j n = record { instr = j; times = n }

  pub timed_next : (n : ℕ) (old new : List Timed) (times : ℕ) (whole : List Counted) → n ≡ length old → new ≡ old ++ record { instr = i; times = times } ∷ [] → times ≡ times_in k n
      → code_in old ++ timed_from k (length old) left ≡ whole → code_in new ++ timed_from k (length new) rest ≡ whole
  timed_next n old new times whole count e is h =
      ap (λ (l : List Timed). code_in l ++ timed_from k (length l) rest) e
      ∙ ap (λ (cs : List Counted). cs ++ timed_from k (length (old ++ record { instr = i; times = times } ∷ [])) rest) (map-append counted old (record { instr = i; times = times } ∷ []))
      ∙ ap (λ m. (code_in old ++ timing i times ∷ []) ++ timed_from k m rest) (length-append old (record { instr = i; times = times } ∷ []))
      ∙ append_assoc (code_in old) (timing i times ∷ []) (timed_from k (length old + 1) rest)
      ∙ ap (λ m. code_in old ++ timing i m ∷ timed_from k (length old + 1) rest) (is ∙ ap (λ m. times_in k m) count)
      ∙ ap (λ (l : List Instr). code_in old ++ timed_from k (length old) l) (sym left_is)
      ∙ h
