use Rattle.std.proofs.Common.{◌≡◌, ◌∙◌, ◌∷◌, ◌++◌, ap, sym, subst, map, None, Some, Ok, option_map, string_bytes}
use Rattle.toml.specs.View.{table_view}
use Rattle.board_table.specs.Others.{IsLeastOther}
use Rattle.board_table.specs.Reading.{access_numbers, core_numbers}
use Rattle.board_table.specs.Steps.{least_other}
use Rattle.board_table.proofs.LeastOfAll.{least_law}
use Rattle.board_table.proofs.Readings.{access_at, access_fails, all_read, budget_at, budget_fails, core_at, core_fails, none_at_fault}
use Rattle.board_table.proofs.read.board_of.Goals as goal

pub returns-in_err-budget : goal.returns-in_err-budget
returns-in_err-budget c = budget_fails (table_view c.args.table.now) _ _ c.from_residual.ensures.1 (rw c.member.ensures at c.in_err-budget.ensures.value)

pub returns-in_err-core : goal.returns-in_err-core
returns-in_err-core c =
    let ms = table_view c.args.table.now in
    let budget_ok : budget_at ms ≡ Ok c.in_ok-budget.budget = rw c.member.ensures at c.in_ok-budget.ensures.value in
    core_fails ms _ _ _ c.from_residual-in_err-core.ensures.1 budget_ok (rw c.member-2.ensures at c.in_err-core.ensures)

pub returns-in_err-access : goal.returns-in_err-access
returns-in_err-access c =
    let ms = table_view c.args.table.now in
    let budget_ok : budget_at ms ≡ Ok c.in_ok-budget.budget = rw c.member.ensures at c.in_ok-budget.ensures.value in
    let core_ok : core_at ms ≡ map Ok (core_numbers c.in_ok-core.core) = rw c.member-2.ensures at c.in_ok-core.ensures in
    access_fails ms _ _ c.in_ok-budget.budget (core_numbers c.in_ok-core.core) c.from_residual-in_err-access.ensures.1 budget_ok core_ok (rw c.member-3.ensures at c.in_err-access.ensures)

pub returns-in-Ok-None : goal.returns-in-Ok-None
returns-in-Ok-None c =
    let ms = table_view c.args.table.now in
    let budget_ok : budget_at ms ≡ Ok c.in_ok-budget.budget = rw c.member.ensures at c.in_ok-budget.ensures.value in
    let core_ok : core_at ms ≡ map Ok (core_numbers c.in_ok-core.core) = rw c.member-2.ensures at c.in_ok-core.ensures in
    let access_ok : access_at ms ≡ map Ok (access_numbers c.in_ok-access.access) = rw c.member-3.ensures at c.in_ok-access.ensures in
    let none : least_other ms ≡ None = sym (ap (option_map string_bytes) (sym c.in-Ok-None.field-0-is) ∙ c.in-Ok-None.ensures.value) in
    record {
      numbers = all_read ms c.in_ok-budget.budget (core_numbers c.in_ok-core.core) (access_numbers c.in_ok-access.access) budget_ok core_ok access_ok;
      others = subst (IsLeastOther ms) none (least_law ms c.in_ok-budget.budget (core_numbers c.in_ok-core.core) (access_numbers c.in_ok-access.access) c.in-Ok-None.ensures.ordered budget_ok core_ok access_ok);
    }

pub returns-in-Ok-Some : goal.returns-in-Ok-Some
returns-in-Ok-Some c =
    let ms = table_view c.args.table.now in
    let budget_ok : budget_at ms ≡ Ok c.in_ok-budget.budget = rw c.member.ensures at c.in_ok-budget.ensures.value in
    let core_ok : core_at ms ≡ map Ok (core_numbers c.in_ok-core.core) = rw c.member-2.ensures at c.in_ok-core.ensures in
    let access_ok : access_at ms ≡ map Ok (access_numbers c.in_ok-access.access) = rw c.member-3.ensures at c.in_ok-access.ensures in
    let some : least_other ms ≡ Some (string_bytes c.in-Ok-Some.key) = sym (ap (option_map string_bytes) (sym c.in-Ok-Some.field-0-is) ∙ c.in-Ok-Some.ensures.value) in (
      none_at_fault (c.in_ok-budget.budget ∷ core_numbers c.in_ok-core.core ++ access_numbers c.in_ok-access.access) _ (all_read ms c.in_ok-budget.budget (core_numbers c.in_ok-core.core) (access_numbers c.in_ok-access.access) budget_ok core_ok access_ok),
      subst (IsLeastOther ms) some (least_law ms c.in_ok-budget.budget (core_numbers c.in_ok-core.core) (access_numbers c.in_ok-access.access) c.in-Ok-Some.ensures.ordered budget_ok core_ok access_ok),
    )
