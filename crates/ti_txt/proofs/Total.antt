-- Each text holds an image or has a fault.
use Rattle.std.proofs.Common.{◌≡◌, ℕ, zero, suc, ◌⊎◌, inl, inr, List, [], length, replicate, None, Ok, Err, refl, ◌∙◌}
use Rattle.std.specs.Prelude.{Result}
use Rattle.std.proofs.lemmas.List.{length-replicate}
use Rattle.ti_txt.specs.Grammar.{Faulty, Holds}
use Rattle.ti_txt.specs.Image.{Block}
use Rattle.ti_txt.specs.Spots.{Cells, Keeps, cell_of}
use Rattle.ti_txt.specs.Sweep.{sweep}
use Rattle.ti_txt.specs.declared.fault.TxtFault.{TxtFault}
use Rattle.ti_txt.specs.declared.fault.TxtFault.TheVariants.{NoEnd}
use Rattle.ti_txt.specs.declared.spot.Spot.{Spot}
use Rattle.ti_txt.specs.declared.spot.Spot.TheVariants.{Before, Ended}
use Rattle.ti_txt.proofs.Cut.{ended_or}
use Rattle.ti_txt.proofs.Filling.{loads, stopped_verdict}
use Rattle.ti_txt.proofs.Lex.{lex}
use Rattle.ti_txt.proofs.Loading.{loaded_holds}
use Rattle.ti_txt.proofs.Run.{run}
use Rattle.ti_txt.proofs.Simulates.{Simulates, simulates}
use Rattle.ti_txt.proofs.Verdict.{ends_early, faulty_from}

none_each : (n address : ℕ) → cell_of (replicate n None) address ≡ None
none_each zero address = refl
none_each (suc n) zero = refl
none_each (suc n) (suc address) = none_each n address

blank : (n : ℕ) → n ≡ 0x10000 → Keeps (replicate n None) []
blank n e = record { size = length-replicate n None ∙ e; each = none_each n }

answer_by : (text : List ℕ) (r : Result (Spot × Cells) TxtFault) → Simulates [] (lex 0 Before text) r → ((blocks : List Block) × Holds text blocks) ⊎ ((fault : TxtFault) × Faulty text fault)
answer_by text (Err f) h = inr (f, faulty_from text f (stopped_verdict text f h))
answer_by text (Ok x) h = stood (ended_or x.0) where
  stood : (x.0 ≡ Ended) ⊎ (x.0 ≡ Ended → ⊥) → ((blocks : List Block) × Holds text blocks) ⊎ ((fault : TxtFault) × Faulty text fault)
  stood (inl end) = inl (sweep 0 [] x.1, loaded_holds text x.1 (loads text x.1 x.0 h end))
  stood (inr going) = inr (NoEnd (length text), ends_early text x.0 going h.ending h.good)

some_by : (n : ℕ) → n ≡ 0x10000 → (text : List ℕ) → ((blocks : List Block) × Holds text blocks) ⊎ ((fault : TxtFault) × Faulty text fault)
some_by n e text = answer_by text (run 0 Before (replicate n None) text) (simulates text 0 Before (replicate n None) [] (blank n e))

pub some_answer : (text : List ℕ) → ((blocks : List Block) × Holds text blocks) ⊎ ((fault : TxtFault) × Faulty text fault)
some_answer text = some_by 0x10000 refl text
