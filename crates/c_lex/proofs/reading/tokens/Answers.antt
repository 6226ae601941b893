use Rattle.std.proofs.Common.{◌≡◌, ◌≢◌, ◌<◌, ◌-◌, ℕ, [], ◌∷◌, ◌++◌, List, length, take, drop, refl, sym, ap, length-drop, arith}
use Rattle.std.proofs.lemmas.List.{take_all}
use Rattle.std.proofs.lemmas.Grind.{common_steps}
use Rattle.c_lex.specs.declared.piece.Piece.TheVariants.{Skip, Take, Stop}
use Rattle.c_lex.proofs.Standing.{scan_stands}
use Rattle.c_lex.proofs.Passing.{reach, cut_reached, same_cut, same_fault, cut_or_fault, fault_reached}
use Rattle.c_lex.proofs.reading.tokens.Goals as goal

rest_after : (n : ℕ) (r : List ℕ) → take (length r - n) (drop n r) ≡ drop n r
rest_after n r = take_all (length r - n) (drop n r) (omega (arith, length-drop n r))

no_more : {A : Type 0} (xs : List A) → xs ≡ xs ++ []
no_more [] = refl
no_more (x ∷ xs) = ap (λ ys. x ∷ ys) (no_more xs)

empty : (xs : List ℕ) → length xs ≡ 0 → xs ≡ []
empty [] e = refl
empty (x ∷ xs) e = absurd (omega arith)

something : (xs : List ℕ) → 0 < length xs → xs ≢ []
something xs more e = let e2 = ap length e in absurd (omega arith)

pub loop-rest-preserved-in-Skip : goal.loop-rest-preserved-in-Skip
loop-rest-preserved-in-Skip c =
    let more : 0 < length c.loop-rest.rest.now = grind arith in
    record {
      reached = reach c.args.text.now c.loop-rest.tokens.items c.loop-rest.spot c.loop-rest.rest.now (Skip c.in-Skip.len) c.behind-spot.result _ c.loop-rest.tokens.items
          c.loop-rest.invariant.reached (scan_stands c.loop-rest.spot.before c.loop-rest.rest.now (Skip c.in-Skip.len) (something c.loop-rest.rest.now more) (sym c.in-Skip.ensures.piece))
          (rw (sym c.past.ensures) c.behind-spot.ensures.value, rest_after c.in-Skip.len c.loop-rest.rest.now) (no_more c.loop-rest.tokens.items);
      at = let gone = rest_after c.in-Skip.len c.loop-rest.rest.now in rw gone (omega (arith, length-drop c.in-Skip.len c.loop-rest.rest.now, c.in-Skip.ensures.within));
      column = c.behind-spot.ensures.column;
      small = omega arith;
    }

pub loop-rest-preserved : goal.loop-rest-preserved
loop-rest-preserved c =
    let more : 0 < length c.loop-rest.rest.now = grind arith in
    record {
      reached = reach c.args.text.now c.loop-rest.tokens.items c.loop-rest.spot c.loop-rest.rest.now (Take c.in-Take.kind c.in-Take.len) c.behind-spot-in-Take.result _ c.push.new.self.items
          c.loop-rest.invariant.reached (scan_stands c.loop-rest.spot.before c.loop-rest.rest.now (Take c.in-Take.kind c.in-Take.len) (something c.loop-rest.rest.now more) (sym c.in-Take.ensures.piece))
          (c.behind-spot-in-Take.ensures.value, rest_after c.in-Take.len c.loop-rest.rest.now) (grind (arith, common_steps));
      at = let gone = rest_after c.in-Take.len c.loop-rest.rest.now in rw gone (omega (arith, length-drop c.in-Take.len c.loop-rest.rest.now, c.in-Take.ensures.within));
      column = c.behind-spot-in-Take.ensures.column;
      small = omega arith;
    }

pub returns-in-Stop-clause-fault : goal.returns-in-Stop-clause-fault
returns-in-Stop-clause-fault c = λ _.
    let more : 0 < length c.loop-rest.rest.now = grind arith in
    fault_reached c.args.text.now c.loop-rest.tokens.items c.loop-rest.spot c.loop-rest.rest.now c.in-Stop.cause c.fault_at.result c.loop-rest.invariant.reached (something c.loop-rest.rest.now more)
    (scan_stands c.loop-rest.spot.before c.loop-rest.rest.now (Stop c.in-Stop.cause) (something c.loop-rest.rest.now more) (sym c.in-Stop.ensures.piece)) c.fault_at.ensures

pub returns-in-Stop-clause-first : goal.returns-in-Stop-clause-first
returns-in-Stop-clause-first c = λ real other faulty. same_fault c.args.text.now c.fault_at.result other (returns-in-Stop-clause-fault c real) faulty

pub returns-in-Stop-clause-none : goal.returns-in-Stop-clause-none
returns-in-Stop-clause-none c = λ real others cut. cut_or_fault c.args.text.now others c.fault_at.result cut (returns-in-Stop-clause-fault c real)

pub returns-clause-found : goal.returns-clause-found
returns-clause-found c =
    let none : length c.loop-rest.rest.now ≡ 0 = grind arith in
    let nothing : c.loop-rest.rest.now ≡ [] = empty c.loop-rest.rest.now none in
    cut_reached c.args.text.now c.loop-rest.tokens.items c.loop-rest.spot (rw nothing at c.loop-rest.invariant.reached)

pub returns-clause-only : goal.returns-clause-only
returns-clause-only c = λ others cut. same_cut c.args.text.now c.loop-rest.tokens.items others (returns-clause-found c) cut
