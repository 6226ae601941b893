-- The code of placing keeps up with the marks.
use Rattle.std.specs.Prelude.{length, if◌then◌else◌}
use Rattle.std.proofs.Common.{◌≡◌, ◌==◌, ◌++◌, ℕ, Bool, true, false, List, [], ◌∷◌, refl, sym, ap, ◌∙◌, subst, arith, append_assoc}
use Rattle.flow_graph.specs.declared.graph.Item.{Item}
use Rattle.chain_units.specs.declared.pieces.Piece.{Piece}
use Rattle.chain_units.specs.declared.cutting.Turning as code
use Rattle.chain_units.specs.declared.cutting.Run.{Run}
use Rattle.chain_units.specs.declared.cutting.Run.TheVariants as run
use Rattle.chain_units.specs.declared.cutting.Placer.{Placer}
use Rattle.chain_units.specs.Known.{Known}
use Rattle.chain_units.specs.Marks.{Alone, Closes, Joins, Mark, ChainUnit}
use Rattle.chain_units.specs.Chains.{PlacedChain, Plain, Turning, closed, cut}
use Rattle.chain_units.specs.Pieces.{ArePieces, IsPieceOf}
use Rattle.chain_units.specs.Placements.{AreRuns, Closed, HasClosed, HasJoined, IsBehind, IsLast, IsTurningOf, Joined, StandsAlone}

-- ---- lists

append-nil : {A : Type 0} (xs : List A) → xs ++ [] ≡ xs
append-nil [] = refl
append-nil (x ∷ xs) = ap (λ ys. x ∷ ys) (append-nil xs)

runs-append : (k : Known) (cs ds : List PlacedChain) (rs ss : List Run) → AreRuns k cs rs → AreRuns k ds ss → AreRuns k (cs ++ ds) (rs ++ ss)
runs-append k [] ds [] ss are more = more
runs-append k (c ∷ cs) ds (r ∷ rs) ss are more = (are.0, runs-append k cs ds rs ss are.1 more)
runs-append k [] ds (r ∷ rs) ss are more = absurd are
runs-append k (c ∷ cs) ds [] ss are more = absurd are

pieces-append : (k : Known) (us vs : List ChainUnit) (ps qs : List Piece) → ArePieces k us ps → ArePieces k vs qs → ArePieces k (us ++ vs) (ps ++ qs)
pieces-append k [] vs [] qs are more = more
pieces-append k (u ∷ us) vs (p ∷ ps) qs are more = (are.0, pieces-append k us vs ps qs are.1 more)
pieces-append k [] vs (p ∷ ps) qs are more = absurd are
pieces-append k (u ∷ us) vs [] qs are more = absurd are

pieces-length : (k : Known) (us : List ChainUnit) (ps : List Piece) → ArePieces k us ps → length us ≡ length ps
pieces-length k [] [] are = refl
pieces-length k (u ∷ us) (p ∷ ps) are = omega (arith, pieces-length k us ps are.1)
pieces-length k [] (p ∷ ps) are = absurd are
pieces-length k (u ∷ us) [] are = absurd are

-- ---- a chain that closes

last_run : (k : Known) (us : List ChainUnit) (ps : List Piece) (cs : List PlacedChain) (rs more : List Run) → AreRuns k cs rs → ArePieces k us ps → IsLast rs more ps → AreRuns k (cs ++ Plain us ∷ []) more
last_run k us ps cs rs more runs pieces is =
    subst (λ (ss : List Run). AreRuns k (cs ++ Plain us ∷ []) ss) (sym is.behind)
    (runs-append k cs (Plain us ∷ []) rs (run.Plain is.last ∷ []) runs (subst (λ (qs : List Piece). ArePieces k us qs) (sym is.of_pieces) pieces, tt))

closed_runs : (k : Known) (us : List ChainUnit) (ps : List Piece) (cs : List PlacedChain) (rs more : List Run) → AreRuns k cs rs → ArePieces k us ps → Closed rs more ps → AreRuns k (cs ++ closed us) more
closed_runs k [] [] cs rs more runs pieces e = subst (λ (ss : List Run). AreRuns k (cs ++ []) ss) (sym e) (subst (λ (ds : List PlacedChain). AreRuns k ds rs) (sym (append-nil cs)) runs)
closed_runs k (u ∷ us) (p ∷ ps) cs rs more runs pieces is = last_run k (u ∷ us) (p ∷ ps) cs rs more runs pieces is
closed_runs k [] (p ∷ ps) cs rs more runs pieces is = absurd pieces
closed_runs k (u ∷ us) [] cs rs more runs pieces is = absurd pieces

-- ---- marks

pub behind_none : (k : Known) (p : Placer) → p.runs.items ≡ [] → p.pieces.items ≡ [] → IsBehind k [] p
behind_none k p none none' = record {
  units = [];
  chains = [];
  pieces = subst (λ (ps : List Piece). ArePieces k [] ps) (sym none') tt;
  runs = subst (λ (rs : List Run). AreRuns k [] rs) (sym none) tt;
  so_far = λ more. refl;
}

pub behind_close : (k : Known) (before : List Mark) (old new : Placer) → IsBehind k before old → HasClosed old new → IsBehind k (before ++ Closes ∷ []) new
behind_close k before old new b has = record {
  units = [];
  chains = b.chains ++ closed b.units;
  pieces = subst (λ (ps : List Piece). ArePieces k [] ps) (sym has.pieces) tt;
  runs = closed_runs k b.units old.pieces.items b.chains old.runs.items new.runs.items b.runs b.pieces has.runs;
  so_far = λ more. ap (λ (ms : List Mark). cut [] ms) (append_assoc before (Closes ∷ []) more) ∙ (b.so_far (Closes ∷ more) ∙ sym (append_assoc b.chains (closed b.units) (cut [] more)));
}

pub behind_alone : (k : Known) (before : List Mark) (old new : Placer) (x : Item) (n : ℕ) (t : code.Turning) → IsBehind k before old → StandsAlone old t new → IsTurningOf k x n t → IsBehind k (before ++ Alone x n ∷ []) new
behind_alone k before old new x n t b stands is = record {
  units = [];
  chains = (b.chains ++ closed b.units) ++ Turning x n ∷ [];
  pieces = subst (λ (ps : List Piece). ArePieces k [] ps) (sym stands.pieces) tt;
  runs = subst (λ (rs : List Run). AreRuns k ((b.chains ++ closed b.units) ++ Turning x n ∷ []) rs) (sym stands.alone)
      (runs-append k (b.chains ++ closed b.units) (Turning x n ∷ []) stands.closed (run.Alone t ∷ []) (closed_runs k b.units old.pieces.items b.chains old.runs.items stands.closed b.runs b.pieces stands.before) (is, tt));
  so_far = λ more.
      ap (λ (ms : List Mark). cut [] ms) (append_assoc before (Alone x n ∷ []) more)
      ∙ (b.so_far (Alone x n ∷ more)
      ∙ (sym (append_assoc b.chains (closed b.units) (Turning x n ∷ cut [] more)) ∙ sym (append_assoc (b.chains ++ closed b.units) (Turning x n ∷ []) (cut [] more))));
}

module _ (k : Known) (before : List Mark) (old new : Placer) (u : ChainUnit) (p : Piece) (b : IsBehind k before old) (is : IsPieceOf k u p) where
  full : ArePieces k (b.units ++ u ∷ []) (old.pieces.items ++ p ∷ [])
  full = pieces-append k b.units (u ∷ []) old.pieces.items (p ∷ []) b.pieces (is, tt)

  start : (more : List Mark) → cut [] ((before ++ Joins u ∷ []) ++ more) ≡ b.chains ++ cut b.units (Joins u ∷ more)
  start more = ap (λ (ms : List Mark). cut [] ms) (append_assoc before (Joins u ∷ []) more) ∙ b.so_far (Joins u ∷ more)

  -- the chain has its most units, or goes on
  by_test : (t : Bool) → (length b.units == 31) ≡ t → Joined t old.runs.items new.runs.items (old.pieces.items ++ p ∷ []) new.pieces.items → IsBehind k (before ++ Joins u ∷ []) new
  by_test true e joined = record {
    units = [];
    chains = b.chains ++ Plain (b.units ++ u ∷ []) ∷ [];
    pieces = subst (λ (ps : List Piece). ArePieces k [] ps) (sym joined.0) tt;
    runs = last_run k (b.units ++ u ∷ []) (old.pieces.items ++ p ∷ []) b.chains old.runs.items new.runs.items b.runs full joined.1;
    so_far = λ more.
        start more
        ∙ (ap (λ (c : Bool). b.chains ++ (if c then Plain (b.units ++ u ∷ []) ∷ cut [] more else cut (b.units ++ u ∷ []) more)) e ∙ sym (append_assoc b.chains (Plain (b.units ++ u ∷ []) ∷ []) (cut [] more)));
  }
  by_test false e joined = record {
    units = b.units ++ u ∷ [];
    chains = b.chains;
    pieces = subst (λ (ps : List Piece). ArePieces k (b.units ++ u ∷ []) ps) (sym joined.0) full;
    runs = subst (λ (rs : List Run). AreRuns k b.chains rs) (sym joined.1) b.runs;
    so_far = λ more. start more ∙ ap (λ (c : Bool). b.chains ++ (if c then Plain (b.units ++ u ∷ []) ∷ cut [] more else cut (b.units ++ u ∷ []) more)) e;
  }

  pub behind_join : HasJoined old p new → IsBehind k (before ++ Joins u ∷ []) new
  behind_join joined =
      let same : length b.units ≡ length old.pieces.items = pieces-length k b.units old.pieces.items b.pieces in
      by_test (length old.pieces.items == 31) (ap (λ (n : ℕ). n == 31) same) joined

-- at the end of the marks the chain that is open closes
pub behind_end : (k : Known) (marks : List Mark) (old new : Placer) → IsBehind k marks old → HasClosed old new → AreRuns k (cut [] marks) new.runs.items
behind_end k marks old new b has =
    let whole : cut [] marks ≡ b.chains ++ closed b.units = ap (λ (ms : List Mark). cut [] ms) (sym (append-nil marks)) ∙ b.so_far [] in
    subst (λ (cs : List PlacedChain). AreRuns k cs new.runs.items) (sym whole) (closed_runs k b.units old.pieces.items b.chains old.runs.items new.runs.items b.runs b.pieces has.runs)
