-- A reader's way through a text.
use Rattle.std.proofs.Common.{ℕ, ◌+◌, List, [], ◌∷◌, Ok, Err}
use Rattle.std.specs.Prelude.{Result}
use Rattle.ti_txt.specs.Spots.{Cells, advanced}
use Rattle.ti_txt.specs.declared.fault.TxtFault.{TxtFault}
use Rattle.ti_txt.specs.declared.spot.Spot.{Spot}

abbrev pub go_on : (Spot → Cells → Result (Spot × Cells) TxtFault) → Result (Spot × Cells) TxtFault → Result (Spot × Cells) TxtFault
go_on rest (Ok x) = rest x.0 x.1
go_on rest (Err fault) = Err fault

abbrev pub run : ℕ → Spot → Cells → List ℕ → Result (Spot × Cells) TxtFault
run at spot cells [] = Ok (spot, cells)
run at spot cells (b ∷ text) = go_on (λ s c. run (at + 1) s c text) (advanced at spot b cells)
