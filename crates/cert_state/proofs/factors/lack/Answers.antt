use Rattle.std.proofs.Common.{◌≡◌, ◌∙◌, ap, arith, map, []}
use Rattle.std.proofs.lemmas.Int.{ints}
use Rattle.cert_rules.specs.Spending.{with_terms, without_terms, most_added, least_taken}
use Rattle.cert_state.specs.Views.{factor_of, range_or_any}
use Rattle.cert_state.proofs.factors.lack.Goals as goal

pub returns : goal.returns
returns c =
    let s = c.args.spent.now in
    let p = c.args.promised.now in
    let range = range_or_any c.args.values.now.items in
    let own : map factor_of c.in_ok-own.own.items ≡ with_terms s.terms.items [] =
    c.in_ok-own.ensures ∙ ap (λ ts. with_terms ts (map factor_of c.new-none.result.items)) c.as_slice.ensures.value ∙ ap (λ fs. with_terms s.terms.items (map factor_of fs)) c.new-none.ensures.items in
    let factors : map factor_of c.in_ok-factors.factors.items ≡ without_terms p.terms.items (with_terms s.terms.items []) =
    c.in_ok-factors.ensures ∙ ap (λ ts. without_terms ts (map factor_of c.in_ok-own.own.items)) c.as_slice-2.ensures.value ∙ ap (without_terms p.terms.items) own in
    let adds : c.most_added-adds.result ≡ most_added range (without_terms p.terms.items (with_terms s.terms.items [])) =
    c.most_added-adds.ensures.value ∙ ap (λ fs. most_added range (map factor_of fs)) c.as_slice-3.ensures.value ∙ ap (most_added range) factors in
    let takes : c.least_taken-takes.result ≡ least_taken range (without_terms p.terms.items (with_terms s.terms.items [])) =
    c.least_taken-takes.ensures.value ∙ ap (λ fs. least_taken range (map factor_of fs)) c.as_slice-4.ensures.value ∙ ap (least_taken range) factors in
    omega (arith, ints, adds, takes, c.from.ensures, s.small.0, s.small.1, c.most_added-adds.ensures.small, c.least_taken-takes.ensures.small)
