-- What a flow does, operation by operation, from given words of objects.
use Rattle.std.proofs.Common.{◌≡◌, ◌≢◌, ℕ, zero, suc, ◌+◌, ◌-◌, ◌<◌, true, false, List, [], ◌∷◌, ◌++◌, Option, Some, None, refl, sym, ap, ◌∙◌, subst, arith, append_assoc, append-nil}
use Rattle.std.specs.Prelude.{◌==◌, ◌&&◌, if◌then◌else◌}
use Rattle.plain_meaning.specs.Behaviour.{Going, Begins, IsSteady}
use Rattle.msp430_machine.specs.State.{input_word}
use Rattle.laid_code.specs.Flows.{Memory, Turn, On, Away, Ends, Traps, Change, Effect, Flow, written, with_put, taken_by, Stage, Doing, Stopped, turned, done, next, stage, meaning_of, behaves}
use Rattle.laid_code.specs.Obeying.{AreAlike, AreSmall, Obeys}
use Rattle.laid_code.proofs.Following.{Follows}

module _ (Q : Type 0) (flow : Flow Q) where
  -- ---- It is steady

  begins_self : (xs : List ℕ) → Begins xs xs
  begins_self xs = ([], sym (append-nil xs))

  begins_on : (xs ys zs : List ℕ) → Begins xs ys → Begins ys zs → Begins xs zs
  begins_on xs ys zs first second = (first.0 ++ second.0, second.1 ∙ ap (λ l. l ++ second.0) first.1 ∙ append_assoc xs first.0 second.0)

  extends : (put : List ℕ) (puts : Option ℕ) → Begins put (with_put put puts)
  extends put None = begins_self put
  extends put (Some v) = (v ∷ [], refl)

  turn_begins : (t : Turn) (q : Q) (m : Memory) (taken : ℕ) (put : List ℕ) → (meaning_of Q flow (turned Q flow t q m taken put)).words ≡ put
  turn_begins On q m taken put = refl
  turn_begins Away q m taken put = refl
  turn_begins (Ends v) q m taken put = refl
  turn_begins (Traps v) q m taken put = refl

  next_begins : (input : List ℕ) (s : Stage Q flow) → Begins (meaning_of Q flow s).words (meaning_of Q flow (next Q flow input s)).words
  next_begins input (Doing q m taken put) =
      let e = flow.effect q m (input_word input taken) in
      subst (λ w. Begins put w) (sym (turn_begins e.turn q (written m e.change) (taken_by taken e.takes) (with_put put e.puts))) (extends put e.puts)
  next_begins input (Stopped x) = begins_self x.words

  next_stopped : (input : List ℕ) (s : Stage Q flow) → (meaning_of Q flow s).outcome ≢ Going → next Q flow input s ≡ s
  next_stopped input (Doing q m taken put) h = absurd (h refl)
  next_stopped input (Stopped x) h = refl

  module _ (q : Q) (m : Memory) where
    more_by : (input : List ℕ) (n k : ℕ) → Begins (behaves Q flow q m input n).words (behaves Q flow q m input (k + n)).words
    more_by input n zero = (let e : 0 + n ≡ n = omega arith in subst (λ x. Begins (behaves Q flow q m input n).words (behaves Q flow q m input x).words) (sym e) (begins_self (behaves Q flow q m input n).words))
    more_by input n (suc k) =
        let e : suc k + n ≡ suc (k + n) = omega arith in
        subst (λ x. Begins (behaves Q flow q m input n).words (behaves Q flow q m input x).words) (sym e) (begins_on (behaves Q flow q m input n).words (behaves Q flow q m input (k + n)).words (behaves Q flow q m input (suc (k + n))).words (more_by input n k) (next_begins input (stage Q flow q m input (k + n))))

    stays_by : (input : List ℕ) (n k : ℕ) → (behaves Q flow q m input n).outcome ≢ Going → stage Q flow q m input (k + n) ≡ stage Q flow q m input n
    stays_by input n zero h = (let e : 0 + n ≡ n = omega arith in ap (λ x. stage Q flow q m input x) e)
    stays_by input n (suc k) h =
        let e : suc k + n ≡ suc (k + n) = omega arith in
        let before = stays_by input n k h in
        ap (λ x. stage Q flow q m input x) e ∙ ap (λ x. next Q flow input x) before ∙ next_stopped input (stage Q flow q m input n) h

    pub steady : IsSteady (behaves Q flow q m)
    steady = record {
      more = λ input n k le. (let e : k - n + n ≡ k = omega (arith, le) in subst (λ x. Begins (behaves Q flow q m input n).words (behaves Q flow q m input x).words) e (more_by input n (k - n)));
      stopped = λ input n k le h. (let e : k - n + n ≡ k = omega (arith, le) in ap (λ x. meaning_of Q flow x) (subst (λ x. stage Q flow q m input x ≡ stage Q flow q m input n) e (stays_by input n (k - n) h)));
    }

    -- ---- It follows itself

    -- the flow is here, with a memory that is like this one
    pub record Tracks (words : ℕ → ℕ) (input : List ℕ) (n : ℕ) (at : Q) (now : Memory) (taken : ℕ) (put : List ℕ) : Type 0 where
      pub real : Memory
      pub is : stage Q flow q m input n ≡ Doing at real taken put
      pub same : AreAlike words now real
      pub small : AreSmall words now

    written_small : (words : ℕ → ℕ) (now : Memory) (c : Option Change) → AreSmall words now → ((d : Change) → c ≡ Some d → d.value < 65536) → AreSmall words (written now c)
    written_small words now None small value = small
    written_small words now (Some c) small value = λ o i low. elim (o == c.object && i == c.index) as (λ b. (if b then c.value else now o i) < 65536) [ true ↦ value c refl | false ↦ small o i low ]

    written_alike : (words : ℕ → ℕ) (now real : Memory) (c : Option Change) → AreAlike words now real → AreAlike words (written now c) (written real c)
    written_alike words now real None same = same
    written_alike words now real (Some c) same = λ o i low. elim (o == c.object && i == c.index) as (λ b. (if b then c.value else now o i) ≡ (if b then c.value else real o i)) [ true ↦ refl | false ↦ same o i low ]

    pub follows : (input : List ℕ) (words : ℕ → ℕ) → Obeys Q flow input words → Follows Q flow (behaves Q flow q m) input words (Tracks words input)
    follows input words obeys = record {
      shown = λ n at now taken put t. ap (λ x. meaning_of Q flow x) t.is;
      small = λ n at now taken put t. t.small;
      within = λ n at now taken put c t e. obeys.within at now taken c e;
      idle = λ n at now taken put t. obeys.idle at now taken;
      steps_on = λ n at now taken put t e. record { real = written t.real (effect at now taken).change; is = leads n at now taken put On t e; same = written_alike words now t.real (effect at now taken).change t.same; small = small_behind n at now taken put t };
      steps_away = λ n at now taken put t e. record { real = written t.real (effect at now taken).change; is = leads n at now taken put Away t e; same = written_alike words now t.real (effect at now taken).change t.same; small = small_behind n at now taken put t };
      ends = λ n at now taken put v t e. ap (λ x. meaning_of Q flow x) (leads n at now taken put (Ends v) t e);
      traps = λ n at now taken put v t e. (obeys.other at now taken v t.small e, ap (λ x. meaning_of Q flow x) (leads n at now taken put (Traps v) t e));
    }
      where
        effect : Q → Memory → ℕ → Effect
        effect at now taken = flow.effect at now (input_word input taken)

        leads : (n : ℕ) (at : Q) (now : Memory) (taken : ℕ) (put : List ℕ) (turn : Turn) → (t : Tracks words input n at now taken put) → (effect at now taken).turn ≡ turn
            → stage Q flow q m input (n + 1) ≡ turned Q flow turn at (written t.real (effect at now taken).change) (taken_by taken (effect at now taken).takes) (with_put put (effect at now taken).puts)
        leads n at now taken put turn t e =
            let more : n + 1 ≡ suc n = omega arith in
            ap (λ x. stage Q flow q m input x) more ∙ ap (λ x. next Q flow input x) t.is
            ∙ ap (λ x. done Q flow x at t.real taken put) (sym (obeys.local at now t.real (input_word input taken) t.same))
            ∙ ap (λ x. turned Q flow x at (written t.real (effect at now taken).change) (taken_by taken (effect at now taken).takes) (with_put put (effect at now taken).puts)) e

        small_behind : (n : ℕ) (at : Q) (now : Memory) (taken : ℕ) (put : List ℕ) → Tracks words input n at now taken put → AreSmall words (written now (effect at now taken).change)
        small_behind n at now taken put t = written_small words now (effect at now taken).change t.small (λ d e. obeys.value at now taken d t.small e)
