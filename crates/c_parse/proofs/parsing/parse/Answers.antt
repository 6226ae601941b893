use Rattle.std.proofs.Common.{rules, ◌≡◌, reverse}
use Rattle.std.specs.Prelude.{Err}
use Rattle.c_parse.specs.declared.fault.ParseFault.TheVariants.{Unexpected}
use Rattle.c_parse.specs.Faults.{at_end}
use Rattle.c_parse.specs.Words.{words_of}
use Rattle.c_parse.proofs.Reading.{treeless, one_left, tree_is, shallow_tree, all_real}
use Rattle.c_parse.proofs.Grouped.{grouped_text}
use Rattle.c_parse.proofs.Whole.{Whole, is_fit, whole_tree, ends_early, only_tree, ended_as, lacked_as}
use Rattle.c_parse.proofs.parsing.parse.Goals as goal

pub returns-in_err-machine-clause-none : goal.returns-in_err-machine-clause-none
returns-in_err-machine-clause-none c =
    let e : c.from_residual.result ≡ Err c.in_err-machine.field-0.0 = search rules in
    rw e (λ other raw derives. treeless c.args.text.now c.args.tokens.now c.in_err-machine.field-0.0 c.in_err-machine.ensures.first other raw derives)

pub tree_left-requires : goal.tree_left-requires
tree_left-requires c =
    let whole : Whole (words_of c.args.text.now c.args.tokens.now) (reverse c.finish.new.self.builds.items) =
    whole_tree _ _ _ _ _ c.in_ok-machine.ensures.all (ended_as _ _ _ _ _ c.in-Ok-true.ensures c.in-Ok-true.field-0-test) in
    (whole.raw, one_left c.finish.new.self.builds.items whole.raw whole.builds)

pub returns-in-Ok-true-clause-found : goal.returns-in-Ok-true-clause-found
returns-in-Ok-true-clause-found c =
    let whole : Whole (words_of c.args.text.now c.args.tokens.now) (reverse c.finish.new.self.builds.items) =
    whole_tree _ _ _ _ _ c.in_ok-machine.ensures.all (ended_as _ _ _ _ _ c.in-Ok-true.ensures c.in-Ok-true.field-0-test) in
    shallow_tree _ _ (tree_is _ c.finish.new.self.builds.items c.tree_left.result whole c.tree_left.ensures) (is_fit _ _ _ c.in_ok-machine.ensures.all c.in_ok-machine.ensures.sparse)

pub returns-in-Ok-true-clause-grouped : goal.returns-in-Ok-true-clause-grouped
returns-in-Ok-true-clause-grouped c = λ t. grouped_text t.text c.tree_left.result t.derives (all_real c.args.text.now t.text c.args.tokens.now t.are)

pub returns-in-Ok-true-clause-only : goal.returns-in-Ok-true-clause-only
returns-in-Ok-true-clause-only c = λ other derives.
    let whole : Whole (words_of c.args.text.now c.args.tokens.now) (reverse c.finish.new.self.builds.items) =
    whole_tree _ _ _ _ _ c.in_ok-machine.ensures.all (ended_as _ _ _ _ _ c.in-Ok-true.ensures c.in-Ok-true.field-0-test) in
    only_tree _ c.tree_left.result other (tree_is _ c.finish.new.self.builds.items c.tree_left.result whole c.tree_left.ensures) derives

pub returns-in-Ok-false-clause-first : goal.returns-in-Ok-false-clause-first
returns-in-Ok-false-clause-first c =
    at_end (ends_early _ _ _ c.in_ok-machine.ensures.all c.in_ok-machine.ensures.sparse (lacked_as _ _ _ _ _ c.in-Ok-false.ensures c.in-Ok-false.field-0-test)) c.end_of.ensures

pub returns-in-Ok-false-clause-none : goal.returns-in-Ok-false-clause-none
returns-in-Ok-false-clause-none c = λ other raw derives.
    treeless c.args.text.now c.args.tokens.now (Unexpected c.end_of.result)
    (at_end (ends_early _ _ _ c.in_ok-machine.ensures.all c.in_ok-machine.ensures.sparse (lacked_as _ _ _ _ _ c.in-Ok-false.ensures c.in-Ok-false.field-0-test)) c.end_of.ensures)
    other raw derives
