use Rattle.std.proofs.Common.{◌≡◌, ◌<◌, ◌≤◌, ◌+◌, length, take, sym, ap, subst, arith}
use Rattle.std.proofs.lemmas.List.Elements.{All-take}
use Rattle.c_lex.specs.Cut.{IsIn}
use Rattle.c_parse.specs.Profile.{IsRoomy}
use Rattle.c_parse.proofs.Fronts.{roomy_at, words_take}
use Rattle.c_parse.specs.declared.tally.Last.TheVariants.{Other}
use Rattle.c_parse.specs.declared.tally.Tally.{Tally}
use Rattle.c_parse.specs.Tally.{outside, operator_count, tally_of}
use Rattle.c_parse.specs.Words.{words_of}
use Rattle.c_parse.proofs.Reading.{reads_on, stops_at, counts_on, sparse_next, one_over}
use Rattle.c_parse.proofs.Stepping.{passed, halted}
use Rattle.c_parse.proofs.Tallies.{sparse_none, few_brackets}
use Rattle.c_parse.proofs.Whole.{stands_first}
use Rattle.c_parse.proofs.parsing.read.Goals as goal

pub tokens-init : goal.tokens-init
tokens-init c = record {
  stands = stands_first _ _ c.in-Ok.ensures.0 c.in-Ok.ensures.1;
  within = omega arith;
  counted = c.outside-tally.ensures;
  sparse = sparse_none;
  brackets = omega (arith, ap (λ (t : Tally). t.brackets) c.outside-tally.ensures);
  operators = omega (arith, ap (λ (t : Tally). t.operators) c.outside-tally.ensures);
}

pub tokens-preserved : goal.tokens-preserved
tokens-preserved c =
    let within : c.tokens.at < length c.args.tokens.now = c.in-Some.ensures.lookup.3.0 in
    let counts : c.read_token.new.tally ≡ tally_of (outside Other) (take (c.tokens.at + 1) (words_of c.args.text.now c.args.tokens.now)) =
    counts_on c.args.text.now c.args.tokens.now c.tokens.at c.in-Some.token.now within c.in-Some.ensures.lookup.1 c.tokens.tally _ c.tokens.invariant.counted c.read_token.ensures.counted in
    let below : c.read_token.new.tally.operators ≤ 1000 = c.if-tally-gt-MOST_OPERATORS.false in
    let few : operator_count (take (c.tokens.at + 1) (words_of c.args.text.now c.args.tokens.now)) ≤ 1000 = omega (arith, ap (λ (t : Tally). t.operators) counts, below) in
    record {
      stands = reads_on c.args.text.now c.args.tokens.now c.tokens.at c.in-Some.token.now within c.in-Some.ensures.lookup.1 _ _ _ _ c.tokens.invariant.stands
          (passed _ _ _ _ _ _ c.in-Ok-None.ensures.steps c.in-Ok-None.field-0-is);
      within = omega arith;
      counted = counts;
      sparse = sparse_next c.args.text.now c.args.tokens.now c.tokens.at c.in-Some.token.now within c.in-Some.ensures.lookup.1 c.tokens.invariant.sparse few;
      brackets = omega (arith, ap (λ (t : Tally). t.brackets) counts, few_brackets (words_of c.args.text.now c.args.tokens.now) (c.tokens.at + 1));
      operators = below;
    }

pub fault_at-requires-clause-cut : goal.fault_at-requires-clause-cut
fault_at-requires-clause-cut c = All-take (λ token. IsIn c.args.text.now token) c.tokens.at c.args.tokens.now (c.longest_tokens.ensures c.args.text.now c.args.tokens.now c.requires)

pub fault_at-requires-clause-roomy : goal.fault_at-requires-clause-roomy
fault_at-requires-clause-roomy c = λ le. subst IsRoomy (sym (words_take c.args.text.now c.args.tokens.now c.tokens.at))
    (roomy_at _ _ _ _ _ c.tokens.invariant.stands (halted _ _ _ _ _ _ _ c.in-Ok-Some.ensures.steps c.in-Ok-Some.field-0-is) le)

pub returns-then-tally-gt-MOST_OPERATORS-clause-first : goal.returns-then-tally-gt-MOST_OPERATORS-clause-first
returns-then-tally-gt-MOST_OPERATORS-clause-first c =
    let within : c.tokens.at < length c.args.tokens.now = c.in-Some.ensures.lookup.3.0 in
    let counts : c.read_token.new.tally ≡ tally_of (outside Other) (take (c.tokens.at + 1) (words_of c.args.text.now c.args.tokens.now)) =
    counts_on c.args.text.now c.args.tokens.now c.tokens.at c.in-Some.token.now within c.in-Some.ensures.lookup.1 c.tokens.tally _ c.tokens.invariant.counted c.read_token.ensures.counted in
    let above : 1000 < c.read_token.new.tally.operators = c.if-tally-gt-MOST_OPERATORS.true in
    one_over c.args.text.now c.args.tokens.now c.tokens.at c.in-Some.token.now within c.in-Some.ensures.lookup.1 _ _ _ _ c.tokens.invariant.stands c.tokens.invariant.sparse
    (passed _ _ _ _ _ _ c.in-Ok-None.ensures.steps c.in-Ok-None.field-0-is) (omega (arith, ap (λ (t : Tally). t.operators) counts, above))

pub returns-in-Ok-Some-clause-first : goal.returns-in-Ok-Some-clause-first
returns-in-Ok-Some-clause-first c =
    let within : c.tokens.at < length c.args.tokens.now = c.in-Some.ensures.lookup.3.0 in
    stops_at c.args.text.now c.args.tokens.now c.tokens.at c.in-Some.token.now within c.in-Some.ensures.lookup.1 _ _ c.in-Ok-Some.depth c.fault_at.result c.tokens.invariant.stands c.tokens.invariant.sparse
    (halted _ _ _ _ _ _ _ c.in-Ok-Some.ensures.steps c.in-Ok-Some.field-0-is) c.fault_at.ensures.deep c.fault_at.ensures.flat
