-- One tree, and the first fault.
use Rattle.std.proofs.Common.{◌≡◌, ◌<◌, ◌≤◌, ℕ, List, [], ◌∷◌, ◌++◌, length, Option, Some, None, Bool, true, false, refl, sym, ap, subst, ◌∙◌, ◌+◌, take, get_or, append_assoc, append-nil, arith}
use Rattle.std.proofs.Common.{add-one}
use Rattle.std.specs.Prelude.{All}
use Rattle.std.proofs.lemmas.List.Elements.{All-nil}
use Rattle.std.proofs.Math.Seq.{take-suc}
use Rattle.std.proofs.lemmas.Grind.{common_steps}
use Rattle.c_parse.specs.declared.class.Class.{Class}
use Rattle.c_parse.specs.declared.raw.Raw.{Raw}
use Rattle.c_parse.specs.declared.raw.Raw.TheVariants.{Node}
use Rattle.c_parse.specs.declared.raw.RawRule.TheVariants.{Program as OfProgram}
use Rattle.c_parse.specs.declared.form.Wait.{Wait}
use Rattle.c_parse.specs.Grammar.{program, token, sub, Word, Nested, word_at, nested_at, bare, IsText, Begins, IsShallow, IsReal, IsFit, ahead, Derives, node, Parses, IsOpen, FirstFault, EndsEarly}
use Rattle.c_parse.specs.Machine.{want, at, turn, level, Move, turns, shift, Moves, stay, go}
use Rattle.c_parse.specs.Steps.{Stuck, Reaches, Passes_over, Refuses, Stands, Lacks, Ends, Finishes}
use Rattle.c_parse.proofs.Sound.{ended, back_all, sound}
use Rattle.c_parse.proofs.Viable.{Good, good_moves, Completion, completable}
use Rattle.c_parse.proofs.Complete.{then, read_whole}
use Rattle.c_parse.specs.Tally.{IsSparse}
use Rattle.c_parse.proofs.Sparse.{few_in}

pub record Same (c : List Wait) (vs : List (List Raw)) (ts : List Nested) (c2 : List Wait) (vs2 : List (List Raw)) (ts2 : List Nested) : Type 0 where
  pub waits : c ≡ c2
  pub builds : vs ≡ vs2
  pub rest : ts ≡ ts2

same : (c : List Wait) (vs : List (List Raw)) (ts : List Nested) → Same c vs ts c vs ts
same c vs ts = record { waits = refl; builds = refl; rest = refl }

pub good_start : Good (want (sub program) ∷ []) ([] ∷ [])
good_start = record { depth = refl; wanted_free = refl }

-- A state has one move at most.
unique : (c : List Wait) (vs : List (List Raw)) (ts : List Nested) (c2 : List Wait) (vs2 : List (List Raw)) (ts2 : List Nested)
    (d : List Wait) (ws : List (List Raw)) (us : List Nested) (c3 : List Wait) (vs3 : List (List Raw)) (ts3 : List Nested)
    → Move c vs ts c2 vs2 ts2 → Move d ws us c3 vs3 ts3 → c ≡ d → vs ≡ ws → ts ≡ us → Same c2 vs2 ts2 c3 vs3 ts3
unique _ _ _ _ _ _ _ _ _ _ _ _ (shift _ word _ _ _ _ _ _) (shift _ word2 _ _ _ _ _ _) e1 e2 e3 = record { waits = cc; builds = (let same : word ≡ word2 = cc in cc); rest = cc }
unique _ _ _ _ _ _ _ _ _ _ _ _ (shift class word c top vs ts here_is deep) (turns d ws _ _ us is) e1 e2 e3 =
    let e : turn (want (token class) ∷ c) (top ∷ vs) (ahead us None) ≡ turn d ws (ahead us None) = ap (λ x. turn x (top ∷ vs) (ahead us None)) e1 ∙ ap (λ x. turn d x (ahead us None)) e2 in cc e
unique _ _ _ _ _ _ _ _ _ _ _ _ (turns d ws _ _ us is) (shift class word c top vs ts here_is deep) e1 e2 e3 =
    let e : turn (want (token class) ∷ c) (top ∷ vs) (ahead us None) ≡ turn d ws (ahead us None) = ap (λ x. turn x (top ∷ vs) (ahead us None)) (sym e1) ∙ ap (λ x. turn d x (ahead us None)) (sym e2) in cc e
unique _ _ _ _ _ _ _ _ _ _ _ _ (turns c vs c2 vs2 ts is) (turns d ws c3 vs3 us is2) e1 e2 e3 =
    let e : turn c vs (ahead ts None) ≡ turn d ws (ahead us None) = ap (λ x. turn x vs (ahead ts None)) e1 ∙ ap (λ x. turn d x (ahead ts None)) e2 ∙ ap (λ t. turn d ws (ahead t None)) e3 in
    let s : at c2 vs2 ≡ at c3 vs3 = cc (e, is, is2) in
    record { waits = ap (λ x. x.waits) s; builds = ap (λ x. x.builds) s; rest = e3 }

pub deterministic : (c : List Wait) (vs : List (List Raw)) (ts : List Nested) (c2 : List Wait) (vs2 : List (List Raw)) (ts2 : List Nested) (c3 : List Wait) (vs3 : List (List Raw)) (ts3 : List Nested)
    → Move c vs ts c2 vs2 ts2 → Move c vs ts c3 vs3 ts3 → Same c2 vs2 ts2 c3 vs3 ts3
deterministic c vs ts c2 vs2 ts2 c3 vs3 ts3 m m2 = unique c vs ts c2 vs2 ts2 c vs ts c3 vs3 ts3 m m2 refl refl refl

-- All ways that go on to the end pass through each state of the other.
pub goes_onward : (c : List Wait) (vs : List (List Raw)) (ts : List Nested) (c2 : List Wait) (vs2 : List (List Raw)) (ts2 : List Nested) (c3 : List Wait) (vs3 : List (List Raw)) (ts3 : List Nested)
    → Moves c vs ts c2 vs2 ts2 → Moves c vs ts c3 vs3 ts3 → Stuck c3 vs3 ts3 → Moves c2 vs2 ts2 c3 vs3 ts3
goes_onward _ _ _ _ _ _ c3 vs3 ts3 (stay c vs ts) other stuck = other
goes_onward _ _ _ _ _ _ _ _ _ (go c vs ts c2 vs2 ts2 c4 vs4 ts4 move moves) (stay _ _ _) stuck = absurd (stuck c2 vs2 ts2 move)
goes_onward _ _ _ _ _ _ _ _ _ (go c vs ts c2 vs2 ts2 c4 vs4 ts4 move moves) (go _ _ _ c5 vs5 ts5 c3 vs3 ts3 move2 moves2) stuck =
    let one : Same c5 vs5 ts5 c2 vs2 ts2 = deterministic c vs ts c5 vs5 ts5 c2 vs2 ts2 move2 move in
    let P : List Wait → Type 0 = λ w. Moves w vs5 ts5 c3 vs3 ts3 in
    let Q : List (List Raw) → Type 0 = λ b. Moves c2 b ts5 c3 vs3 ts3 in
    let R : List Nested → Type 0 = λ t. Moves c2 vs2 t c3 vs3 ts3 in
    goes_onward c2 vs2 ts2 c4 vs4 ts4 c3 vs3 ts3 moves (subst R one.rest (subst Q one.builds (subst P one.waits moves2))) stuck

pub ended_stuck : (vs : List (List Raw)) (ts : List Nested) → Stuck [] vs ts
ended_stuck vs ts c2 vs2 _ (turns _ _ _ _ _ e) = cc

from_end : (vs : List (List Raw)) (ts : List Nested) (c2 : List Wait) (vs2 : List (List Raw)) (ts2 : List Nested) → Moves [] vs ts c2 vs2 ts2 → vs ≡ vs2
from_end _ _ _ _ _ (stay _ vs ts) = refl
from_end _ _ _ _ _ (go _ vs ts c2 vs2 ts2 _ _ _ move moves) = absurd (ended_stuck vs ts c2 vs2 ts2 move)

-- A list of tokens at their levels has one tree.
one_tree : (tokens : List Nested) (r s : List Raw) → Derives 0 (sub program) r tokens None → Derives 0 (sub program) s tokens None → r ≡ s
one_tree tokens r s p q =
    let way : Moves [] (r ∷ []) [] [] (s ∷ []) [] = goes_onward _ _ _ _ _ _ _ _ _ (read_whole tokens r p) (read_whole tokens s q) (ended_stuck (s ∷ []) []) in
    let same_lists : r ∷ [] ≡ s ∷ [] = from_end (r ∷ []) [] [] (s ∷ []) [] way in
    cc

pub record IsOne (raws : List Raw) : Type 0 where
  pub raw : Raw
  pub is : raws ≡ raw ∷ []

one_raw : (depth : ℕ) (raws : List Raw) (ts : List Nested) (next : Option Class) → Derives depth (sub program) raws ts next → IsOne raws
one_raw _ _ _ _ (node _ _ _ parts _ _ _ _ _ made _) = record { raw = Node OfProgram parts; is = made }

pub same_nested : (a b : Nested) → word_at a ≡ word_at b → a.level ≡ b.level → a ≡ b
same_nested a b e l = ap (λ n. nested_at n (word_at a)) l ∙ ap (nested_at b.level) e

-- The words of tokens tell their levels.
same_levels : (c : List Wait) (vs : List (List Raw)) (ts : List Nested) (c2 : List Wait) (vs2 : List (List Raw)) (us : List Nested)
    (d : List Wait) (ws : List (List Raw)) (ts3 : List Nested) (c3 : List Wait) (vs3 : List (List Raw)) (us3 : List Nested) (front more front3 more3 : List Nested)
    → Moves c vs ts c2 vs2 us → us ≡ [] → Moves d ws ts3 c3 vs3 us3 → us3 ≡ [] → c ≡ d → vs ≡ ws → ts ≡ front ++ more → ts3 ≡ front3 ++ more3 → bare front ≡ bare front3 → front ≡ front3
same_levels c vs ts c2 vs2 us d ws ts3 c3 vs3 us3 [] more [] more3 m e m3 e3 ec ev et et3 eb = refl
same_levels c vs ts c2 vs2 us d ws ts3 c3 vs3 us3 [] more (w ∷ front3) more3 m e m3 e3 ec ev et et3 eb = cc
same_levels c vs ts c2 vs2 us d ws ts3 c3 vs3 us3 (w ∷ front) more [] more3 m e m3 e3 ec ev et et3 eb = cc
same_levels _ _ _ _ _ _ d ws ts3 c3 vs3 us3 (w ∷ front) more (w3 ∷ front3) more3 (stay c vs ts) e m3 e3 ec ev et et3 eb = let q : [] ≡ w ∷ (front ++ more) = sym e ∙ et in cc
same_levels _ _ _ _ _ _ _ _ _ _ _ _ (w ∷ front) more (w3 ∷ front3) more3 (go c vs ts c4 vs4 ts4 c2 vs2 us m m4) e (stay d ws ts3) e3 ec ev et et3 eb = let q : [] ≡ w3 ∷ (front3 ++ more3) = sym e3 ∙ et3 in cc
same_levels _ _ _ _ _ _ _ _ _ _ _ _ (w ∷ front) more (w3 ∷ front3) more3 (go _ _ _ _ _ _ c2 vs2 us (turns c vs c4 vs4 ts is) m4) e (go _ _ _ _ _ _ c3 vs3 us3 (turns d ws c5 vs5 ts3 is3) m5) e3 ec ev et et3 eb =
    let first : word_at w ≡ word_at w3 = cc in
    let look : ahead ts None ≡ ahead ts3 None = ap (λ t. ahead t None) et ∙ ap (λ x. Some x.class) first ∙ sym (ap (λ t. ahead t None) et3) in
    let e2 : turn c vs (ahead ts None) ≡ turn d ws (ahead ts3 None) = ap (λ x. turn x vs (ahead ts None)) ec ∙ ap (λ x. turn d x (ahead ts None)) ev ∙ ap (turn d ws) look in
    let s : at c4 vs4 ≡ at c5 vs5 = cc (e2, is, is3) in
    same_levels c4 vs4 ts c2 vs2 us c5 vs5 ts3 c3 vs3 us3 (w ∷ front) more (w3 ∷ front3) more3 m4 e m5 e3 (ap (λ x. x.waits) s) (ap (λ x. x.builds) s) et et3 eb
same_levels _ _ _ _ _ _ _ _ _ _ _ _ (w ∷ front) more (w3 ∷ front3) more3 (go _ _ _ _ _ _ c2 vs2 us (shift class word c top vs ts is deep) m4) e (go _ _ _ _ _ _ c3 vs3 us3 (turns d ws c5 vs5 ts3 is3) m5) e3 ec ev et et3 eb =
    let e2 : turn (want (token class) ∷ c) (top ∷ vs) (ahead ts3 None) ≡ turn d ws (ahead ts3 None) = ap (λ x. turn x (top ∷ vs) (ahead ts3 None)) ec ∙ ap (λ x. turn d x (ahead ts3 None)) ev in cc e2
same_levels _ _ _ _ _ _ _ _ _ _ _ _ (w ∷ front) more (w3 ∷ front3) more3 (go _ _ _ _ _ _ c2 vs2 us (turns d ws c5 vs5 ts3 is3) m4) e (go _ _ _ _ _ _ c3 vs3 us3 (shift class word c top vs ts is deep) m5) e3 ec ev et et3 eb =
    let e2 : turn (want (token class) ∷ c) (top ∷ vs) (ahead ts3 None) ≡ turn d ws (ahead ts3 None) = ap (λ x. turn x (top ∷ vs) (ahead ts3 None)) (sym ec) ∙ ap (λ x. turn d x (ahead ts3 None)) (sym ev) in cc e2
same_levels _ _ _ _ _ _ _ _ _ _ _ _ (w ∷ front) more (w3 ∷ front3) more3 (go _ _ _ _ _ _ c2 vs2 us (shift class word c top vs ts is deep) m4) e (go _ _ _ _ _ _ c3 vs3 us3 (shift class3 word3 d top3 ws ts3 is3 deep3) m5) e3 ec ev et et3 eb =
    let first : word_at w ≡ word_at w3 = cc in
    let others : bare front ≡ bare front3 = cc in
    let here_is : word ≡ w = cc in
    let here_is3 : word3 ≡ w3 = cc in
    let same_waits : c ≡ d = cc in
    let leaves : word.leaf ≡ word3.leaf = ap (λ x. x.leaf) here_is ∙ ap (λ x. x.leaf) first ∙ sym (ap (λ x. x.leaf) here_is3) in
    let deeper : w.level ≡ w3.level = sym (ap (λ x. x.level) here_is) ∙ deep ∙ ap level same_waits ∙ sym deep3 ∙ ap (λ x. x.level) here_is3 in
    let built : (top ++ word.leaf ∷ []) ∷ vs ≡ (top3 ++ word3.leaf ∷ []) ∷ ws = cc (ev, leaves) in
    let rest_is : ts ≡ front ++ more = cc in
    let rest_is3 : ts3 ≡ front3 ++ more3 = cc in
    let both_same : w ≡ w3 = same_nested w w3 first deeper in
    let all_same : front ≡ front3 = same_levels c ((top ++ word.leaf ∷ []) ∷ vs) ts c2 vs2 us d ((top3 ++ word3.leaf ∷ []) ∷ ws) ts3 c3 vs3 us3 front more front3 more3 m4 e m5 e3 same_waits built rest_is rest_is3 others in
    cc

-- Where some text begins with tokens, their words tell their levels.
pub one_level : (front other : List Nested) → Begins front → Begins other → bare front ≡ bare other → front ≡ other
one_level front other a b e =
    same_levels _ _ _ _ _ _ _ _ _ _ _ _ front a.more other b.more (read_whole (front ++ a.more) (a.raw ∷ []) a.text) refl (read_whole (other ++ b.more) (b.raw ∷ []) b.text) refl refl refl refl refl e

-- What the machine read is at the levels at which a text begins with it.
pub read_levels : (front : List Word) (c : List Wait) (vs : List (List Raw)) (s : Stands front c vs) (other after : List Nested) (raw : Raw) → IsText (other ++ after) raw → front ≡ bare other → s.text ≡ other
read_levels front c vs s other after raw text e =
    same_levels _ _ _ _ _ _ _ _ _ _ _ _ s.text [] other after (s.moves []) refl (read_whole (other ++ after) (raw ∷ []) text) refl refl refl refl refl (s.are ∙ e)

-- The tokens that were read begin a text of the grammar.
pub begins_so : (text : List Nested) (c : List Wait) (vs : List (List Raw)) → ((rest : List Nested) → Moves (want (sub program) ∷ []) ([] ∷ []) (text ++ rest) c vs rest) → Begins text
begins_so text c vs moves =
    let end : Completion c vs = completable c vs (good_moves _ _ _ _ _ _ (moves []) good_start) in
    let derives : Derives 0 (sub program) end.out (text ++ end.rest) None = sound (text ++ end.rest) end.out (back_all _ _ _ _ _ _ end.out (moves end.rest) end.done) in
    let single : IsOne end.out = one_raw 0 end.out (text ++ end.rest) None derives in
    let P : List Raw → Type 0 = λ r. Derives 0 (sub program) r (text ++ end.rest) None in
    record { more = end.rest; real = end.real; raw = single.raw; text = subst P single.is derives }

pub is_fit : (front : List Word) (c : List Wait) (vs : List (List Raw)) → Stands front c vs → IsSparse front → IsFit front
is_fit front c vs s sparse =
    let b : Begins s.text = begins_so s.text c vs s.moves in
    record { front = s.text; are = s.are; shallow = s.shallow; begins = b; few = few_in s.text b front s.are sparse }

pub is_open : (front : List Word) (c : List Wait) (vs : List (List Raw)) → Stands front c vs → IsOpen front
is_open front c vs s = record { front = s.text; are = s.are; begins = begins_so s.text c vs s.moves }

no_way : (c : List Wait) (vs : List (List Raw)) (word : Nested) (ts : List Nested) (c2 : List Wait) (vs2 : List (List Raw)) → Stuck c vs (word ∷ ts) → Moves c vs (word ∷ ts) c2 vs2 [] → ⊥
no_way c vs word ts c2 vs2 stuck moves = ended_before c vs (word ∷ ts) c2 vs2 [] word ts refl refl stuck moves
  where
    ended_before : (c : List Wait) (vs : List (List Raw)) (us : List Nested) (c2 : List Wait) (vs2 : List (List Raw)) (ws : List Nested) (word : Nested) (ts : List Nested)
        → us ≡ word ∷ ts → ws ≡ [] → Stuck c vs us → Moves c vs us c2 vs2 ws → ⊥
    ended_before _ _ _ _ _ _ word ts e1 e2 stuck (stay c vs us) = cc
    ended_before _ _ _ _ _ _ word ts e1 e2 stuck (go c vs us c2 vs2 us2 _ _ _ move _) = stuck c2 vs2 us2 move

-- Tokens of these words, the last of them apart.
pub record Parting (all : List Nested) (front : List Word) (word : Word) : Type 0 where
  pub before : List Nested
  pub last : Nested
  pub is : all ≡ before ++ last ∷ []
  pub are : front ≡ bare before
  pub word_is : word_at last ≡ word

pub part : (front : List Word) (word : Word) (all : List Nested) → bare all ≡ front ++ word ∷ [] → Parting all front word
part [] word [] e = cc
part [] word (n ∷ []) e = record { before = []; last = n; is = refl; are = refl; word_is = cc }
part [] word (n ∷ n2 ∷ ns) e = cc
part (w ∷ front) word [] e = cc
part (w ∷ front) word (n ∷ ns) e =
    let r : Parting ns front word = part front word ns (cc) in
    let first : word_at n ≡ w = cc in
    record { before = n ∷ r.before; last = r.last; is = ap (λ x. n ∷ x) r.is; are = ap (λ x. x ∷ front) (sym first) ∙ ap (λ x. word_at n ∷ x) r.are; word_is = r.word_is }

pub text_behind : (before : List Nested) (last : Nested) (b : Begins (before ++ last ∷ [])) → IsText (before ++ last ∷ b.more) b.raw
text_behind before last b = let P : List Nested → Type 0 = λ t. IsText t b.raw in subst P (append_assoc before (last ∷ []) b.more) b.text

-- Where the machine is stuck at a token, no text of the grammar goes on with it at this level.
pub not_so : (front : List Word) (word : Word) (c : List Wait) (vs : List (List Raw)) (c2 : List Wait) (vs2 : List (List Raw)) (s : Stands front c vs) → Reaches word c vs c2 vs2
    → (all : List Nested) → Begins all → (p : Parting all front word) → ((rest : List Nested) → Stuck c2 vs2 (nested_at p.last.level word ∷ rest)) → ⊥
not_so front word c vs c2 vs2 s reaches all b p stuck =
    let all_begins : Begins (p.before ++ p.last ∷ []) = subst Begins p.is b in
    let same_text : s.text ≡ p.before = read_levels front c vs s p.before (p.last ∷ all_begins.more) all_begins.raw (text_behind p.before p.last all_begins) p.are in
    let last_is : p.last ≡ nested_at p.last.level word = same_nested p.last (nested_at p.last.level word) p.word_is refl in
    let end : List (List Raw) = (all_begins.raw ∷ []) ∷ [] in
    let P : List Nested → Type 0 = λ t. Moves (want (sub program) ∷ []) ([] ∷ []) t [] end [] in
    let whole : Moves (want (sub program) ∷ []) ([] ∷ []) (s.text ++ nested_at p.last.level word ∷ all_begins.more) [] end [] =
    subst P (append_assoc p.before (p.last ∷ []) all_begins.more ∙ ap (λ t. t ++ p.last ∷ all_begins.more) (sym same_text) ∙ ap (λ n. s.text ++ n ∷ all_begins.more) last_is)
    (read_whole _ (all_begins.raw ∷ []) all_begins.text) in
    no_way c2 vs2 (nested_at p.last.level word) all_begins.more [] end (stuck all_begins.more)
    (goes_onward _ _ _ _ _ _ _ _ _ (then (s.moves (nested_at p.last.level word ∷ all_begins.more)) (reaches.moves p.last.level all_begins.more)) whole (ended_stuck end []))

last_all : (before : List Nested) (last : Nested) → All IsShallow (before ++ last ∷ []) → last.level ≤ 64
last_all before last all = grind (arith, common_steps, all)

pub refused : (front : List Word) (word : Word) (c : List Wait) (vs : List (List Raw)) → Stands front c vs → Refuses word c vs → IsFit (front ++ word ∷ []) → ⊥
refused front word c vs s r was =
    let p : Parting was.front front word = part front word was.front was.are in
    let low : p.last.level ≤ 64 = last_all p.before p.last (subst (All IsShallow) p.is was.shallow) in
    not_so front word c vs r.waits r.builds s r.reaches was.front was.begins p (λ rest. r.stuck p.last.level rest low)

-- Where the machine waits for more at the end, the words are no text of the grammar.
pub not_whole : (front : List Word) (c : List Wait) (vs : List (List Raw)) (wait : Wait) (c2 : List Wait) (vs2 : List (List Raw)) (s : Stands front c vs) → Moves c vs [] (wait ∷ c2) vs2 [] → Stuck (wait ∷ c2) vs2 []
    → (raw : Raw) → Parses front raw → ⊥
not_whole front c vs wait c2 vs2 s moves stuck raw parses =
    let P : List Nested → Type 0 = λ t. IsText t raw in
    let same_text : s.text ≡ parses.text = read_levels front c vs s parses.text [] raw (subst P (sym (append-nil parses.text)) parses.derives) (sym parses.are) in
    let Q : List Nested → Type 0 = λ t. Moves (want (sub program) ∷ []) ([] ∷ []) t [] ((raw ∷ []) ∷ []) [] in
    let whole : Moves (want (sub program) ∷ []) ([] ∷ []) (s.text ++ []) [] ((raw ∷ []) ∷ []) [] = subst Q (sym (ap (λ t. t ++ []) same_text ∙ append-nil parses.text)) (read_whole parses.text (raw ∷ []) parses.derives) in
    goes_on (wait ∷ c2) vs2 [] [] ((raw ∷ []) ∷ []) [] wait c2 refl refl stuck
    (goes_onward _ _ _ _ _ _ _ _ _ (then (s.moves []) moves) whole (ended_stuck ((raw ∷ []) ∷ []) []))
  where
    goes_on : (d : List Wait) (vs : List (List Raw)) (us : List Nested) (c2 : List Wait) (vs2 : List (List Raw)) (ws : List Nested) (wait : Wait) (c : List Wait)
        → d ≡ wait ∷ c → c2 ≡ [] → Stuck d vs us → Moves d vs us c2 vs2 ws → ⊥
    goes_on _ _ _ _ _ _ wait c e1 e2 stuck (stay d vs us) = cc
    goes_on _ _ _ _ _ _ wait c e1 e2 stuck (go d vs us c2 vs2 us2 _ _ _ move _) = stuck c2 vs2 us2 move

pub stands_first : (c : List Wait) (vs : List (List Raw)) → c ≡ want (sub program) ∷ [] → vs ≡ [] ∷ [] → Stands [] c vs
stands_first c vs e1 e2 = rw (e1, e2) (record { text = []; are = refl; shallow = All-nil IsShallow; deep = omega arith; moves = λ rest. stay _ _ rest })

-- One more token is read.
pub stands_on : (front : List Word) (word : Word) (c : List Wait) (vs : List (List Raw)) (c2 : List Wait) (vs2 : List (List Raw)) → Stands front c vs → Passes_over word c vs c2 vs2 → Stands (front ++ word ∷ []) c2 vs2
stands_on front word c vs c2 vs2 s over = record {
  text = s.text ++ nested_at over.depth word ∷ [];
  are = bare_append s.text (nested_at over.depth word ∷ []) ∙ ap (λ t. t ++ word ∷ []) s.are;
  shallow = shallow_last s.text (nested_at over.depth word) s.shallow over.shallow;
  deep = let low : over.depth ≤ 64 = over.shallow in let is : level c2 ≡ over.depth = over.deep in omega arith;
  moves = way;
}
  where
    bare_append : (a b : List Nested) → bare (a ++ b) ≡ bare a ++ bare b
    bare_append [] b = refl
    bare_append (n ∷ a) b = ap (λ t. word_at n ∷ t) (bare_append a b)

    shallow_last : (a : List Nested) (n : Nested) → All IsShallow a → n.level ≤ 64 → All IsShallow (a ++ n ∷ [])
    shallow_last a n all low = grind (arith, common_steps, all, low)

    way : (rest : List Nested) → Moves (want (sub program) ∷ []) ([] ∷ []) ((s.text ++ nested_at over.depth word ∷ []) ++ rest) c2 vs2 rest
    way rest = rw (append_assoc s.text (nested_at over.depth word ∷ []) rest) (then (s.moves (nested_at over.depth word ∷ rest)) (over.moves rest))

pub next_front : (ts : List Word) (i : ℕ) (d : Word) → i < length ts → take (i + 1) ts ≡ take i ts ++ get_or ts i d ∷ []
next_front ts i d lt = rw (add-one, take-suc ts i d lt) refl

pub stands_next : (ts : List Word) (i : ℕ) (d word : Word) (c : List Wait) (vs : List (List Raw)) (c2 : List Wait) (vs2 : List (List Raw)) → i < length ts → get_or ts i d ≡ word
    → Stands (take i ts) c vs → Passes_over word c vs c2 vs2 → Stands (take (i + 1) ts) c2 vs2
stands_next ts i d word c vs c2 vs2 lt is stands over =
    let P : List Word → Type 0 = λ t. Stands t c2 vs2 in
    subst P (sym (next_front ts i d lt ∙ ap (λ k. take i ts ++ k ∷ []) is)) (stands_on (take i ts) word c vs c2 vs2 stands over)

pub first_fault : (ts : List Word) (i : ℕ) (d word : Word) (c : List Wait) (vs : List (List Raw)) → i < length ts → get_or ts i d ≡ word
    → Stands (take i ts) c vs → IsSparse (take i ts) → Refuses word c vs → FirstFault ts i
first_fault ts i d word c vs lt is stands sparse r = record {
  within = lt;
  before = is_fit (take i ts) c vs stands sparse;
  stops = λ was. refused (take i ts) word c vs stands r (subst IsFit (next_front ts i d lt ∙ ap (λ k. take i ts ++ k ∷ []) is) was);
}

pub stands_whole : (ts : List Word) (i : ℕ) (c : List Wait) (vs : List (List Raw)) → length ts ≤ i → Stands (take i ts) c vs → Stands ts c vs
stands_whole ts i c vs le stands = let P : List Word → Type 0 = λ t. Stands t c vs in let all : take i ts ≡ ts = grind (arith, common_steps) in subst P all stands

-- What stands there at the end.
pub record Whole (tokens : List Word) (vs : List (List Raw)) : Type 0 where
  pub raw : Raw
  pub builds : vs ≡ (raw ∷ []) ∷ []
  pub derives : Parses tokens raw

record OneList (vs : List (List Raw)) : Type 0 where
  raws : List Raw
  is : vs ≡ raws ∷ []

one_list : (vs : List (List Raw)) → 1 ≡ length vs → OneList vs
one_list [] e = absurd (omega arith)
one_list (raws ∷ []) e = record { raws = raws; is = refl }
one_list (raws ∷ other ∷ vs) e = absurd (omega arith)

pub whole_tree : (tokens : List Word) (c : List Wait) (vs : List (List Raw)) (c2 : List Wait) (vs2 : List (List Raw)) → Stands tokens c vs → Ends c vs c2 vs2 → Whole tokens vs2
whole_tree tokens c vs c2 vs2 s ends =
    let P : List Wait → Type 0 = λ x. Moves (want (sub program) ∷ []) ([] ∷ []) (s.text ++ []) x vs2 [] in
    let all : Moves (want (sub program) ∷ []) ([] ∷ []) (s.text ++ []) [] vs2 [] = subst P ends.none_waits (then (s.moves []) ends.moves) in
    let good : Good [] vs2 = good_moves _ _ _ _ _ _ all good_start in
    let fits : 1 ≡ length vs2 = good.depth in
    let list : OneList vs2 = one_list vs2 fits in
    let Q : List (List Raw) → Type 0 = λ b. Moves (want (sub program) ∷ []) ([] ∷ []) (s.text ++ []) [] b [] in
    let derives : Derives 0 (sub program) list.raws (s.text ++ []) None = sound (s.text ++ []) list.raws (back_all _ _ _ _ _ _ list.raws (subst Q list.is all) (ended list.raws)) in
    let single : IsOne list.raws = one_raw 0 list.raws (s.text ++ []) None derives in
    let R : List Raw → Type 0 = λ r. Derives 0 (sub program) r (s.text ++ []) None in
    let S : List Nested → Type 0 = λ t. IsText t single.raw in
    record { raw = single.raw; builds = list.is ∙ ap (λ r. r ∷ []) single.is; derives = record { text = s.text; are = s.are; derives = subst S (append-nil s.text) (subst R single.is derives) } }

pub ends_early : (tokens : List Word) (c : List Wait) (vs : List (List Raw)) → Stands tokens c vs → IsSparse tokens → Lacks c vs → EndsEarly tokens
ends_early tokens c vs stands sparse lacks = record {
  begins = is_fit tokens c vs stands sparse;
  not_whole = not_whole tokens c vs lacks.next lacks.waits lacks.builds stands lacks.moves lacks.stuck;
}

begins_whole : (text : List Nested) (raw : Raw) → IsText text raw → Begins text
begins_whole text raw derives = let P : List Nested → Type 0 = λ t. IsText t raw in record { more = []; real = All-nil IsReal; raw = raw; text = subst P (sym (append-nil text)) derives }

-- Words that are a text of the grammar have one tree.
pub same_tree : (words : List Word) (first second : Raw) → Parses words first → Parses words second → first ≡ second
same_tree words first second p q =
    let P : List Nested → Type 0 = λ t. IsText t first in
    let same_text : p.text ≡ q.text = one_level p.text q.text (begins_whole p.text first p.derives) (begins_whole q.text second q.derives) (p.are ∙ sym q.are) in
    let e : first ∷ [] ≡ second ∷ [] = one_tree q.text (first ∷ []) (second ∷ []) (subst P same_text p.derives) q.derives in cc

-- Where the words are nested nowhere too deep, so are those of the text.
pub shallow_text : (words : List Word) (raw : Raw) (p : Parses words raw) → IsFit words → All IsShallow p.text
shallow_text words raw p fit = subst (All IsShallow) (one_level fit.front p.text fit.begins (begins_whole p.text raw p.derives) (fit.are ∙ sym p.are)) fit.shallow

pub only_tree : (tokens : List Word) (raw other : Raw) → Parses tokens raw → Parses tokens other → other ≡ raw
only_tree tokens raw other p q = same_tree tokens other raw q p

pub ended_as : (done : Bool) (c : List Wait) (vs : List (List Raw)) (c2 : List Wait) (vs2 : List (List Raw)) → Finishes done c vs c2 vs2 → done ≡ true → Ends c vs c2 vs2
ended_as true c vs c2 vs2 f is = f
ended_as false c vs c2 vs2 f is = cc

pub lacked_as : (done : Bool) (c : List Wait) (vs : List (List Raw)) (c2 : List Wait) (vs2 : List (List Raw)) → Finishes done c vs c2 vs2 → done ≡ false → Lacks c vs
lacked_as true c vs c2 vs2 f is = cc
lacked_as false c vs c2 vs2 f is = f

-- The tree that is popped is the one.
pub tree_here : (tokens : List Word) (vs rest : List (List Raw)) (parts left : List Raw) (raw : Raw) → Whole tokens vs → vs ≡ parts ∷ rest → parts ≡ left ++ raw ∷ [] → Parses tokens raw
tree_here tokens vs rest parts left raw w e1 e2 =
    let one : w.raw ∷ [] ≡ left ++ raw ∷ [] = let same_parts : w.raw ∷ [] ≡ parts = cc (w.builds, e1) in same_parts ∙ e2 in
    let same : w.raw ≡ raw = grind (arith, common_steps, one) in
    subst (Parses tokens) same w.derives
