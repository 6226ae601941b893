use Rattle.std.proofs.Common.{◌≡◌, ◌∙◌, ap, sym, true, false, List, ◌∷◌, Some, map, arith, string_bytes}
use Rattle.std.proofs.lemmas.Grind.{common_steps}
use Rattle.std.specs.List.{list_any}
use Rattle.std.specs.Str.{bytes_eq}
use Rattle.toml.specs.View.{view, members_view}
use Rattle.toml.proofs.Views.{Entry}
use Rattle.board_table.specs.Keys.{Text}
use Rattle.board_table.specs.Steps.{first_other}
use Rattle.board_table.proofs.Order.{ascends-view}
use Rattle.board_table.proofs.Chain.{stops, goes_on}
use Rattle.board_table.proofs.others.first_other.Goals as goal

pub returns-then-not-is_among-clause-value : goal.returns-then-not-is_among-clause-value
returns-then-not-is_among-clause-value c =
    let e : Entry = (c.in-Some.key.now, c.in-Some._value.now) in
    let keys : List Text = map (λ s. s.now) c.args.keys.now in
    let iter : c.members.key-iterator ≡ e ∷ c.next.new.self = grind (arith, common_steps) in
    let test : list_any (λ w. bytes_eq w (string_bytes e.0)) keys ≡ false = grind (arith, common_steps) in
    let found : c.as_str-then-not-is_among.result.now ≡ string_bytes e.0 = grind (arith, common_steps) in
    ap (λ (k : Text). Some k) found ∙ sym (stops keys (string_bytes e.0) (view e.1) (members_view c.next.new.self) test)
    ∙ ap (λ (es : List Entry). first_other keys (members_view es)) (sym iter) ∙ c.members.invariant

pub members-preserved : goal.members-preserved
members-preserved c =
    let e : Entry = (c.in-Some.key.now, c.in-Some._value.now) in
    let keys : List Text = map (λ s. s.now) c.args.keys.now in
    let iter : c.members.key-iterator ≡ e ∷ c.next.new.self = grind (arith, common_steps) in
    let test : list_any (λ w. bytes_eq w (string_bytes e.0)) keys ≡ true = grind (arith, common_steps) in
    sym (goes_on keys (string_bytes e.0) (view e.1) (members_view c.next.new.self) test)
    ∙ ap (λ (es : List Entry). first_other keys (members_view es)) (sym iter) ∙ c.members.invariant

pub returns-then-not-is_among-clause-ordered : goal.returns-then-not-is_among-clause-ordered
returns-then-not-is_among-clause-ordered c = ascends-view c.args.table.now.entries c.iter-key-items.ensures.ordered

pub returns-clause-ordered : goal.returns-clause-ordered
returns-clause-ordered c = ascends-view c.args.table.now.entries c.iter-key-items.ensures.ordered
