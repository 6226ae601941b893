-- The verdict, put together.
use Rattle.std.proofs.Common.{◌≡◌, Bool, true, false, List, [], ◌∷◌, Option, Some, None, refl, sym, ap, ◌∙◌}
use Rattle.std.specs.Option.{option_or}
use Rattle.board_table.specs.declared.board.Board.{Board}
use Rattle.ti_txt.specs.Image.{Block}
use Rattle.certificate.specs.Rows.{Function, Certificate}
use Rattle.cert_rules.specs.Faults.{Fault, first_fault, first_of}
use Rattle.cert_rules.specs.Tables.{tables_fault, point_fault}
use Rattle.cert_rules.specs.Sweep.{SweptFrom, AllSwept, done, fault, next, sheet, Verdict}
use Rattle.cert_sweep.proofs.Total.{from_total}

by_first : (blocks : List Block) (c : Certificate) (b : Board) (first : Bool) (f : Function) (functions : List Function) (v : Option Fault) → SweptFrom (sheet blocks c b first f) v
    → (w : Option Fault) × AllSwept blocks c b false functions w → (w : Option Fault) × AllSwept blocks c b first (f ∷ functions) w
by_first blocks c b first f functions None own rest = (rest.0, next first f functions rest.0 own rest.1)
by_first blocks c b first f functions (Some x) own rest = (Some x, fault first f functions x own)

pub all_total : (blocks : List Block) (c : Certificate) (b : Board) (first : Bool) (functions : List Function) → (v : Option Fault) × AllSwept blocks c b first functions v
all_total blocks c b first [] = (None, done first)
all_total blocks c b first (f ∷ functions) =
    let own = from_total (sheet blocks c b first f) in
    by_first blocks c b first f functions own.0 own.1 (all_total blocks c b false functions)

pub by_tables : (blocks : List Block) (c : Certificate) (b : Board) (f : Fault) → tables_fault blocks c.budget c.functions c.stretches b ≡ Some f → Verdict blocks c b (Some f)
by_tables blocks c b f h =
    let all = all_total blocks c b true c.functions in
    record { sweep = all.0; swept = all.1; is = ap (λ o. option_or o (first_fault (first_of (point_fault c.functions c.stretches) c.points ∷ all.0 ∷ []))) (sym h) }

pub by_points : (blocks : List Block) (c : Certificate) (b : Board) (f : Fault) → tables_fault blocks c.budget c.functions c.stretches b ≡ None → first_of (point_fault c.functions c.stretches) c.points ≡ Some f → Verdict blocks c b (Some f)
by_points blocks c b f h k =
    let all = all_total blocks c b true c.functions in
    record {
      sweep = all.0;
      swept = all.1;
      is = ap (λ o. option_or o (first_fault (all.0 ∷ []))) (sym k) ∙ ap (λ o. option_or o (first_fault (first_of (point_fault c.functions c.stretches) c.points ∷ all.0 ∷ []))) (sym h);
    }

or_none : (o : Option Fault) → o ≡ option_or o None
or_none None = refl
or_none (Some f) = refl

pub by_sweep : (blocks : List Block) (c : Certificate) (b : Board) (v : Option Fault) → tables_fault blocks c.budget c.functions c.stretches b ≡ None → first_of (point_fault c.functions c.stretches) c.points ≡ None
    → AllSwept blocks c b true c.functions v → Verdict blocks c b v
by_sweep blocks c b v h k swept = record {
  sweep = v;
  swept = swept;
  is = or_none v ∙ ap (λ o. option_or o (first_fault (v ∷ []))) (sym k) ∙ ap (λ o. option_or o (first_fault (first_of (point_fault c.functions c.stretches) c.points ∷ v ∷ []))) (sym h);
}
