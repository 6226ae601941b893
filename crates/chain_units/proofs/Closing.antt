-- A chain that closes, as the code does it.
use Rattle.std.specs.Prelude.{Result, Ok, Err, OnOk, Vec}
use Rattle.std.specs.declared.alloc.Global.{Global}
use Rattle.std.proofs.Common.{◌≡◌, ◌++◌, List, [], ◌∷◌, refl}
use Rattle.chain_units.specs.declared.pieces.Piece.{Piece}
use Rattle.chain_units.specs.declared.cutting.Run.{Run}
use Rattle.chain_units.specs.declared.cutting.Run.TheVariants as run
use Rattle.chain_units.specs.Placements.{Closed}

pub on_ok : {T E P Q : Type 0} (r : Result T E) → (P → Q) → OnOk r P → OnOk r Q
on_ok (Ok x) f h = f h
on_ok (Err e) f h = h

pub closed_some : (xs : List Piece) (runs more : List Run) (v : Vec Piece Global) → (xs ≡ [] → ⊥) → v.items ≡ xs → more ≡ runs ++ run.Plain v ∷ [] → Closed runs more xs
closed_some [] runs more v some same pushed = absurd (some refl)
closed_some (x ∷ xs) runs more v some same pushed = record { last = v; of_pieces = same; behind = pushed }
