-- What one word does, put together from moves.
use Rattle.std.proofs.Common.{◌≡◌, ◌<◌, ◌≤◌, ℕ, List, [], ◌∷◌, ◌++◌, reverse, Option, Some, None, Bool, true, false, refl, sym, ap, subst, ◌∙◌, arith}
use Rattle.c_parse.specs.declared.class.Class.{Class}
use Rattle.c_parse.specs.declared.raw.Raw.{Raw}
use Rattle.c_parse.specs.declared.form.Wait.{Wait}
use Rattle.c_parse.specs.Grammar.{token, Word, Nested, nested_at, ahead}
use Rattle.c_parse.specs.Machine.{want, level, State, at, turn, Move, turns, shift, Moves, stay}
use Rattle.c_parse.specs.Steps.{Stuck, Reaches, Passes_over, RefusesAt, Steps, class_wanted, Lacks, Ends, Turns}
use Rattle.c_parse.specs.Turning.{as_word}
use Rattle.c_parse.proofs.Complete.{then, one}
use Rattle.c_parse.proofs.Effort.{effort, less_turn}

-- A turn of the code is a move.
pub turned : (told : Option State) (done : Bool) (waits : List Wait) (builds : List (List Raw)) → Turns told done waits builds → done ≡ true → told ≡ Some (at (reverse waits) (reverse builds))
turned None done waits builds t is = cc
turned (Some next) done waits builds t is = ap Some (sym t.1)

pub not_turned : (told : Option State) (done : Bool) (waits : List Wait) (builds : List (List Raw)) → Turns told done waits builds → done ≡ false → told ≡ None
not_turned None done waits builds t is = refl
not_turned (Some next) done waits builds t is = cc

pub reach_here : (word : Word) (c : List Wait) (vs : List (List Raw)) → Reaches word c vs c vs
reach_here word c vs = record { moves = λ depth rest. stay c vs (nested_at depth word ∷ rest) }

pub reach_on : (word : Word) (c : List Wait) (vs : List (List Raw)) (c2 : List Wait) (vs2 : List (List Raw)) (c3 : List Wait) (vs3 : List (List Raw))
    → Reaches word c vs c2 vs2 → turn c2 vs2 (Some word.class) ≡ Some (at c3 vs3) → Reaches word c vs c3 vs3
reach_on word c vs c2 vs2 c3 vs3 r e = record { moves = λ depth rest. then (r.moves depth rest) (one (turns c2 vs2 c3 vs3 (nested_at depth word ∷ rest) e)) }

-- Where no turn is made and no token is waited for, no move leads on.
pub no_turn : (word : Word) (c : List Wait) (vs : List (List Raw)) → turn c vs (Some word.class) ≡ None → ((k : Class) (d : List Wait) → c ≡ want (token k) ∷ d → ⊥) → (depth : ℕ) (rest : List Nested) → Stuck c vs (nested_at depth word ∷ rest)
no_turn word c vs e no_token depth rest c2 vs2 ts2 move = at_move c vs (nested_at depth word ∷ rest) c2 vs2 ts2 (nested_at depth word) rest refl e no_token move
  where
    at_move : (c : List Wait) (vs : List (List Raw)) (ts : List Nested) (c2 : List Wait) (vs2 : List (List Raw)) (ts2 : List Nested) (word : Nested) (rest : List Nested)
        → ts ≡ word ∷ rest → turn c vs (Some word.class) ≡ None → ((k : Class) (d : List Wait) → c ≡ want (token k) ∷ d → ⊥) → Move c vs ts c2 vs2 ts2 → ⊥
    at_move _ _ _ _ _ _ word rest same e no_token (turns c vs c2 vs2 ts is) = let there : turn c vs (ahead ts None) ≡ turn c vs (Some word.class) = ap (λ t. turn c vs (ahead t None)) same in cc (there, e, is)
    at_move _ _ _ _ _ _ word rest same e no_token (shift k w c top vs ts is lies) = no_token k c refl

-- A token that isn't the one waited for.
pub no_shift : (word : Word) (wanted : Class) (c : List Wait) (vs : List (List Raw)) → (word.class ≡ wanted → ⊥) → (depth : ℕ) (rest : List Nested) → Stuck (want (token wanted) ∷ c) vs (nested_at depth word ∷ rest)
no_shift word wanted c vs differ depth rest c2 vs2 ts2 move = at_move _ _ _ _ _ _ refl refl move
  where
    at_move : (d : List Wait) (ws : List (List Raw)) (ts : List Nested) (c2 : List Wait) (vs2 : List (List Raw)) (ts2 : List Nested) → d ≡ want (token wanted) ∷ c → ts ≡ nested_at depth word ∷ rest → Move d ws ts c2 vs2 ts2 → ⊥
    at_move _ _ _ _ _ _ e1 e2 (turns d ws _ _ ts is) = let there : turn d ws (ahead ts None) ≡ None = ap (λ x. turn x ws (ahead ts None)) e1 in cc (there, is)
    at_move _ _ _ _ _ _ e1 e2 (shift k w _ top ws ts is lies) = let same : k ≡ wanted = cc in let same2 : nested_at depth word ≡ w = cc in differ (ap (λ x. x.class) same2 ∙ is ∙ same)

-- A token that would be nested deeper than it stands.
pub too_deep : (word : Word) (wanted : Class) (c : List Wait) (vs : List (List Raw)) → 64 < level c → (depth : ℕ) (rest : List Nested) → depth ≤ 64 → Stuck (want (token wanted) ∷ c) vs (nested_at depth word ∷ rest)
too_deep word wanted c vs deeper depth rest le c2 vs2 ts2 move = at_move _ _ _ _ _ _ refl refl move
  where
    at_move : (d : List Wait) (ws : List (List Raw)) (ts : List Nested) (c2 : List Wait) (vs2 : List (List Raw)) (ts2 : List Nested) → d ≡ want (token wanted) ∷ c → ts ≡ nested_at depth word ∷ rest → Move d ws ts c2 vs2 ts2 → ⊥
    at_move _ _ _ _ _ _ e1 e2 (turns d ws _ _ ts is) = let there : turn d ws (ahead ts None) ≡ None = ap (λ x. turn x ws (ahead ts None)) e1 in cc (there, is)
    at_move _ _ _ _ _ _ e1 e2 (shift k w other top ws ts is lies) =
        let same : other ≡ c = cc in
        let same2 : nested_at depth word ≡ w = cc in
        let lies2 : depth ≡ level c = ap (λ x. x.level) same2 ∙ lies ∙ ap level same in
        omega (arith, lies2, le, deeper)

pub no_list : (word : Word) (wanted : Class) (c : List Wait) (depth : ℕ) (rest : List Nested) → Stuck (want (token wanted) ∷ c) [] (nested_at depth word ∷ rest)
no_list word wanted c depth rest c2 vs2 ts2 move = at_move _ _ _ _ _ _ refl refl move
  where
    at_move : (d : List Wait) (ws : List (List Raw)) (ts : List Nested) (c2 : List Wait) (vs2 : List (List Raw)) (ts2 : List Nested) → d ≡ want (token wanted) ∷ c → ws ≡ [] → Move d ws ts c2 vs2 ts2 → ⊥
    at_move _ _ _ _ _ _ e1 e2 (turns d ws _ _ ts is) = let there : turn d ws (ahead ts None) ≡ None = ap (λ x. turn x ws (ahead ts None)) e1 in cc (there, is)
    at_move _ _ _ _ _ _ e1 e2 (shift k w _ top ws ts is lies) = cc

pub shifted : (word : Word) (wanted : Class) (c : List Wait) (top : List Raw) (vs : List (List Raw)) → word.class ≡ wanted → level c ≤ 64 → Passes_over word (want (token wanted) ∷ c) (top ∷ vs) c ((top ++ word.leaf ∷ []) ∷ vs)
shifted word wanted c top vs is le = record { depth = level c; shallow = le; deep = refl; moves = λ rest. one (shift wanted (nested_at (level c) word) c top vs rest is refl) }

-- The token is refused at once: this is how many forms that nest are open.
refused_here : (word : Word) (wanted : Class) (c : List Wait) (vs : List (List Raw)) (depth : ℕ) → depth ≡ level c
    → ((depth : ℕ) (rest : List Nested) → depth ≤ 64 → Stuck (want (token wanted) ∷ c) vs (nested_at depth word ∷ rest)) → RefusesAt depth word (want (token wanted) ∷ c) vs
refused_here word wanted c vs depth lies stuck = (record { waits = want (token wanted) ∷ c; builds = vs; reaches = reach_here word _ _; stuck = stuck }, sym lies)

pub refuse_other : (word : Word) (wanted : Class) (c : List Wait) (vs : List (List Raw)) (depth : ℕ) → depth ≡ level c → (word.class ≡ wanted → ⊥) → RefusesAt depth word (want (token wanted) ∷ c) vs
refuse_other word wanted c vs depth lies differ = refused_here word wanted c vs depth lies (λ d rest le. no_shift word wanted c vs differ d rest)

pub refuse_deep : (word : Word) (wanted : Class) (c : List Wait) (vs : List (List Raw)) (depth : ℕ) → depth ≡ level c → 64 < depth → RefusesAt depth word (want (token wanted) ∷ c) vs
refuse_deep word wanted c vs depth lies deeper = refused_here word wanted c vs depth lies (too_deep word wanted c vs (omega (arith, lies, deeper)))

pub refuse_empty : (word : Word) (wanted : Class) (c : List Wait) (vs : List (List Raw)) (depth : ℕ) → depth ≡ level c → vs ≡ [] → RefusesAt depth word (want (token wanted) ∷ c) vs
refuse_empty word wanted c vs depth lies e = rw e (refused_here word wanted c [] depth lies (λ d rest le. no_list word wanted c d rest))

pub pass_shift : (word : Word) (wanted : Class) (c : List Wait) (vs : List (List Raw)) (top : List Raw) (rest vs2 : List (List Raw)) → word.class ≡ wanted → level c ≤ 64 → vs ≡ top ∷ rest → vs2 ≡ (top ++ word.leaf ∷ []) ∷ rest
    → Passes_over word (want (token wanted) ∷ c) vs c vs2
pass_shift word wanted c vs top rest vs2 e1 le e2 e3 = rw (e2, e3) (shifted word wanted c top rest e1 le)

-- The loop of one token ends in one of these ways.
pub refuse_end : (word : Word) (c : List Wait) (vs : List (List Raw)) (c2 : List Wait) (vs2 : List (List Raw)) (depth : ℕ) → Reaches word c vs c2 vs2 → c2 ≡ [] → depth ≡ level c2 → RefusesAt depth word c vs
refuse_end word c vs c2 vs2 depth r e lies =
    (record { waits = c2; builds = vs2; reaches = r; stuck = λ d rest le. no_turn word c2 vs2 (ap (λ x. turn x vs2 (Some word.class)) e) (λ k d is. cc (is, e)) d rest }, sym lies)

refuse_turn : (word : Word) (c : List Wait) (vs : List (List Raw)) (c2 : List Wait) (vs2 : List (List Raw)) (depth : ℕ) → Reaches word c vs c2 vs2 → turn c2 vs2 (Some word.class) ≡ None → ((k : Class) (d : List Wait) → c2 ≡ want (token k) ∷ d → ⊥) → depth ≡ level c2
    → RefusesAt depth word c vs
refuse_turn word c vs c2 vs2 depth r e no_token lies = (record { waits = c2; builds = vs2; reaches = r; stuck = λ d rest le. no_turn word c2 vs2 e no_token d rest }, sym lies)

pub steps_on : (told : Option ℕ) (word : Word) (c : List Wait) (vs : List (List Raw)) (c2 : List Wait) (vs2 : List (List Raw)) (c3 : List Wait) (vs3 : List (List Raw))
    → Reaches word c vs c2 vs2 → Steps told word c2 vs2 c3 vs3 → Steps told word c vs c3 vs3
steps_on None word c vs c2 vs2 c3 vs3 r s = record { depth = s.depth; shallow = s.shallow; deep = s.deep; moves = λ rest. then (r.moves s.depth rest) (s.moves rest) }
steps_on (Some depth) word c vs c2 vs2 c3 vs3 r s =
    (record { waits = s.0.waits; builds = s.0.builds; reaches = record { moves = λ d rest. then (r.moves d rest) (s.0.reaches.moves d rest) }; stuck = s.0.stuck }, s.1)

no_token_in : (wait : Wait) (c : List Wait) → class_wanted wait ≡ None → (k : Class) (d : List Wait) → wait ∷ c ≡ want (token k) ∷ d → ⊥
no_token_in wait c e k d is = let same : wait ≡ want (token k) = cc in let there : class_wanted wait ≡ Some k = ap class_wanted same in cc

pub refuse_here : (word : Word) (c : List Wait) (vs : List (List Raw)) (c2 : List Wait) (wait : Wait) (d : List Wait) (vs2 : List (List Raw)) (done : Bool) (waits : List Wait) (builds : List (List Raw)) (depth : ℕ)
    → Reaches word c vs c2 vs2 → c2 ≡ wait ∷ d → class_wanted wait ≡ None → Turns (turn (wait ∷ d) vs2 (Some word.class)) done waits builds → done ≡ false → depth ≡ level c2 → RefusesAt depth word c vs
refuse_here word c vs c2 wait d vs2 done waits builds depth r e none_is t is lies =
    let P : List Wait → Type 0 = λ x. Reaches word c vs x vs2 in
    refuse_turn word c vs (wait ∷ d) vs2 depth (subst P e r) (not_turned _ done waits builds t is) (no_token_in wait d none_is) (lies ∙ ap level e)

pub turn_less : (word : Word) (c2 : List Wait) (wait : Wait) (d : List Wait) (vs2 : List (List Raw)) (done : Bool) (waits : List Wait) (builds : List (List Raw))
    → c2 ≡ wait ∷ d → Turns (turn (wait ∷ d) vs2 (Some word.class)) done waits builds → done ≡ true → effort (reverse waits) < effort c2
turn_less word c2 wait d vs2 done waits builds e t is = rw e (less_turn (wait ∷ d) vs2 (Some word.class) _ _ (turned _ done waits builds t is))

pub turn_on : (word : Word) (c : List Wait) (vs : List (List Raw)) (c2 : List Wait) (wait : Wait) (d : List Wait) (vs2 : List (List Raw)) (done : Bool) (waits : List Wait) (builds : List (List Raw))
    → Reaches word c vs c2 vs2 → c2 ≡ wait ∷ d → Turns (turn (wait ∷ d) vs2 (Some word.class)) done waits builds → done ≡ true → Reaches word c vs (reverse waits) (reverse builds)
turn_on word c vs c2 wait d vs2 done waits builds r e t is =
    let P : List Wait → Type 0 = λ x. Reaches word c vs x vs2 in
    reach_on word c vs (wait ∷ d) vs2 _ _ (subst P e r) (turned _ done waits builds t is)

pub steps_from : (told : Option ℕ) (word : Word) (wanted : Class) (c : List Wait) (vs : List (List Raw)) (c2 : List Wait) (wait : Wait) (d : List Wait) (vs2 : List (List Raw)) (c3 : List Wait) (vs3 : List (List Raw))
    → Reaches word c vs c2 vs2 → c2 ≡ wait ∷ d → Some wanted ≡ class_wanted wait → Steps told word (want (token wanted) ∷ d) vs2 c3 vs3 → Steps told word c vs c3 vs3
steps_from told word wanted c vs c2 wait d vs2 c3 vs3 r e is s =
    let w : wait ≡ want (token wanted) = token_is wait wanted is in
    let P : List Wait → Type 0 = λ x. Reaches word c vs x vs2 in
    steps_on told word c vs (want (token wanted) ∷ d) vs2 c3 vs3 (subst P (e ∙ ap (λ x. x ∷ d) w) r) s
  where
    token_is : (wait : Wait) (wanted : Class) → Some wanted ≡ class_wanted wait → wait ≡ want (token wanted)
    token_is (want (token k)) wanted is = cc
    token_is _ wanted is = cc

pub same_leaf : (class : Class) (leaf other : Raw) → other ≡ leaf → (told : Option ℕ) (c : List Wait) (vs : List (List Raw)) (c2 : List Wait) (vs2 : List (List Raw))
    → Steps told (as_word class other) c vs c2 vs2 → Steps told (as_word class leaf) c vs c2 vs2
same_leaf class leaf other e told c vs c2 vs2 s = let P : Raw → Type 0 = λ x. Steps told (as_word class x) c vs c2 vs2 in subst P e s

pub passed : (told : Option ℕ) (word : Word) (c : List Wait) (vs : List (List Raw)) (c2 : List Wait) (vs2 : List (List Raw)) → Steps told word c vs c2 vs2 → told ≡ None → Passes_over word c vs c2 vs2
passed None word c vs c2 vs2 s is = s
passed (Some depth) word c vs c2 vs2 s is = cc

pub halted : (told : Option ℕ) (depth : ℕ) (word : Word) (c : List Wait) (vs : List (List Raw)) (c2 : List Wait) (vs2 : List (List Raw)) → Steps told word c vs c2 vs2 → told ≡ Some depth → RefusesAt depth word c vs
halted None depth word c vs c2 vs2 s is = cc
halted (Some other) depth word c vs c2 vs2 s is = let same : other ≡ depth = cc in subst (λ d. RefusesAt d word c vs) same s

-- At the end of the tokens.
end_stuck : (c : List Wait) (vs : List (List Raw)) → turn c vs None ≡ None → Stuck c vs []
end_stuck c vs e c2 vs2 ts2 move = at_move c vs [] c2 vs2 ts2 refl e move
  where
    at_move : (c : List Wait) (vs : List (List Raw)) (ts : List Nested) (c2 : List Wait) (vs2 : List (List Raw)) (ts2 : List Nested) → ts ≡ [] → turn c vs None ≡ None → Move c vs ts c2 vs2 ts2 → ⊥
    at_move _ _ _ _ _ _ same e (turns c vs c2 vs2 ts is) = let there : turn c vs (ahead ts None) ≡ turn c vs None = ap (λ t. turn c vs (ahead t None)) same in cc (there, e, is)
    at_move _ _ _ _ _ _ same e (shift k w c top vs ts is lies) = cc

pub lacks_token : (c : List Wait) (vs : List (List Raw)) (c2 : List Wait) (wait : Wait) (d : List Wait) (vs2 : List (List Raw)) (wanted : Class) → Moves c vs [] c2 vs2 [] → c2 ≡ wait ∷ d → Some wanted ≡ class_wanted wait → Lacks c vs
lacks_token c vs c2 (want (token k)) d vs2 wanted m e is = let P : List Wait → Type 0 = λ x. Moves c vs [] x vs2 [] in record { next = want (token k); waits = d; builds = vs2; moves = subst P e m; stuck = end_stuck (want (token k) ∷ d) vs2 refl }
lacks_token c vs c2 _ d vs2 wanted m e is = cc

pub lacks_turn : (c : List Wait) (vs : List (List Raw)) (c2 : List Wait) (wait : Wait) (d : List Wait) (vs2 : List (List Raw)) (done : Bool) (waits : List Wait) (builds : List (List Raw))
    → Moves c vs [] c2 vs2 [] → c2 ≡ wait ∷ d → Turns (turn (wait ∷ d) vs2 None) done waits builds → done ≡ false → Lacks c vs
lacks_turn c vs c2 wait d vs2 done waits builds m e t is =
    let P : List Wait → Type 0 = λ x. Moves c vs [] x vs2 [] in
    record { next = wait; waits = d; builds = vs2; moves = subst P e m; stuck = end_stuck (wait ∷ d) vs2 (not_turned _ done waits builds t is) }

pub ends_on : (c : List Wait) (vs : List (List Raw)) (c2 : List Wait) (wait : Wait) (d : List Wait) (vs2 : List (List Raw)) (done : Bool) (waits : List Wait) (builds : List (List Raw))
    → Moves c vs [] c2 vs2 [] → c2 ≡ wait ∷ d → Turns (turn (wait ∷ d) vs2 None) done waits builds → done ≡ true → Moves c vs [] (reverse waits) (reverse builds) []
ends_on c vs c2 wait d vs2 done waits builds m e t is =
    let P : List Wait → Type 0 = λ x. Moves c vs [] x vs2 [] in
    then (subst P e m) (one (turns (wait ∷ d) vs2 _ _ [] (turned _ done waits builds t is)))

pub ends_less : (c2 : List Wait) (wait : Wait) (d : List Wait) (vs2 : List (List Raw)) (done : Bool) (waits : List Wait) (builds : List (List Raw))
    → c2 ≡ wait ∷ d → Turns (turn (wait ∷ d) vs2 None) done waits builds → done ≡ true → effort (reverse waits) < effort c2
ends_less c2 wait d vs2 done waits builds e t is = rw e (less_turn (wait ∷ d) vs2 None _ _ (turned _ done waits builds t is))

pub ends_here : (c : List Wait) (vs : List (List Raw)) (c2 : List Wait) (vs2 : List (List Raw)) → c2 ≡ [] → Moves c vs [] c2 vs2 [] → Ends c vs c2 vs2
ends_here c vs c2 vs2 e m = record { none_waits = e; moves = m }
