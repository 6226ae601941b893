-- Parts of a run reassociated, and a turn of `do` with the turns behind it.
use Rattle.std.proofs.Common.{◌≡◌, Bool, true, false, Option, Some, List, ◌++◌, ℕ, refl, ap, ◌∙◌, append_assoc}
use Rattle.c_values.specs.Values.{is_set}
use Rattle.c_tree.specs.declared.leaving.Leaving.{Leaving}
use Rattle.c_tree.specs.declared.leaving.Leaving.TheVariants.{Next, Broke, Continued, Returned}
use Rattle.c_tree.specs.Runs.{Event, State, Got, Done, Trapped, Stopped, Part, behind_events, go_on, pure, either, ◌>>=◌}
use Rattle.c_tree.specs.Nodes.{goes_on, left_loop, next_turn, again}
use Rattle.lowered_meaning.proofs.RunLemmas.{behind_none}

behind_behind : {A : Type 0} (es fs : List Event) (got : Got A) → behind_events (es ++ fs) got ≡ behind_events es (behind_events fs got)
behind_behind es fs (Done hs v d) = ap (λ l. Done l v d) (append_assoc es fs hs)
behind_behind es fs (Trapped hs t) = ap (λ l. Trapped l t) (append_assoc es fs hs)
behind_behind es fs (Stopped hs) = ap (λ l. Stopped l) (append_assoc es fs hs)

behind_on : {A B : Type 0} (es : List Event) (got : Got A) (f : A → Part B) → go_on (behind_events es got) f ≡ behind_events es (go_on got f)
behind_on es (Done fs v d) f = behind_behind es fs (f v d)
behind_on es (Trapped fs t) f = refl
behind_on es (Stopped fs) f = refl

-- a part, another and a third
pub on_on : {A B C : Type 0} (got : Got A) (f : A → Part B) (h : B → Part C) → go_on (go_on got f) h ≡ go_on got (λ v d. go_on (f v d) h)
on_on (Done es v d) f h = behind_on es (f v d) h
on_on (Trapped es t) f h = refl
on_on (Stopped es) f h = refl

-- what is the same from every answer on
pub on_same : {A B : Type 0} (got : Got A) (f h : A → Part B) → ((v : A) (d : State) → f v d ≡ h v d) → go_on got f ≡ go_on got h
on_same (Done es v d) f h e = ap (behind_events es) (e v d)
on_same (Trapped es t) f h e = refl
on_same (Stopped es) f h e = refl

-- ---- a turn of `do`

-- the body, the test and, where it is passed, the turns behind it
abbrev pub do_parts : Part Leaving → Part ℕ → Part Leaving → Part Leaving
do_parts pb pc rest = pb >>= (λ l. either (goes_on l) (pc >>= (λ v. either (is_set v) rest (pure Next))) (pure (left_loop l)))

-- the turn as the meaning has it
abbrev pub do_turn : Part Leaving → Part ℕ → Part (Option Leaving)
do_turn pb pc = pb >>= (λ l. either (goes_on l) (pc >>= (λ v. pure (again v))) (pure (Some (left_loop l))))

pub do_is : (pb : Part Leaving) (pc : Part ℕ) (rest : Part Leaving) (d : State) → (do_turn pb pc >>= next_turn rest) d ≡ do_parts pb pc rest d
do_is pb pc rest d = on_on (pb d) (λ l. either (goes_on l) (pc >>= (λ v. pure (again v))) (pure (Some (left_loop l)))) (next_turn rest) ∙ on_same (pb d) _ _ (λ l e. by_leaving l e)
  where
    goes : (v : ℕ) (e : State) (t : Bool) → is_set v ≡ t → next_turn rest (again v) e ≡ either (is_set v) rest (pure Next) e
    goes v e true q = rw q refl
    goes v e false q = rw q refl

    test : (e : State) → go_on ((pc >>= (λ v. pure (again v))) e) (next_turn rest) ≡ (pc >>= (λ v. either (is_set v) rest (pure Next))) e
    test e = on_on (pc e) (λ v. pure (again v)) (next_turn rest) ∙ on_same (pc e) _ _ (λ v e'. behind_none (next_turn rest (again v) e') ∙ goes v e' (is_set v) refl)

    by_leaving : (l : Leaving) (e : State)
        → go_on (either (goes_on l) (pc >>= (λ v. pure (again v))) (pure (Some (left_loop l))) e) (next_turn rest) ≡ either (goes_on l) (pc >>= (λ v. either (is_set v) rest (pure Next))) (pure (left_loop l)) e
    by_leaving Next e = test e
    by_leaving Continued e = test e
    by_leaving Broke e = refl
    by_leaving (Returned w) e = refl
