-- What comes of a run of a graph by the rules: words, and traps of the program's own.
use Rattle.std.proofs.Common.{◌≡◌, ◌+◌, ◌<◌, ◌-◌, ◌%◌, ◌^◌, ℕ, zero, suc, Bool, true, false, List, [], ◌∷◌, length, set, refl, sym, ap, subst, inl, inr, ◌∙◌, arith}
use Rattle.std.specs.Prelude.{Option, None, Some, All, slice_get, slice_index_or, nat_lt, if◌then◌else◌, not, ◌==◌, ⊤, ℤ, pos, negsuc, ◌+ℤ◌, ◌-ℤ◌, ◌*ℤ◌, neg_ℤ, int_lt, int_div, int_rem}
use Rattle.std.specs.Int.Bits.{and_lt}
use Rattle.std.proofs.lemmas.Bool.{cases_eq, cases_lt}
use Rattle.std.proofs.lemmas.List.{get_or-set_same, get_or-set_other, get_or_past, length-set}
use Rattle.std.proofs.lemmas.List.Elements.{All-append, All-cons, All-nil}
use Rattle.std.proofs.lemmas.Nat.{or_lt, xor_lt}
use Rattle.c_values.specs.declared.ops.Ty.{Ty}
use Rattle.c_values.specs.declared.ops.Ty.TheVariants.{I8, U8, I16, U16}
use Rattle.c_values.specs.Values.{Worked, Gives, Traps, from_test, halved, kept, modulo, shifted, unless_zero, value, wrapped, shift_trap}
use Rattle.plain_meaning.specs.Behaviour.{Outcome, Going, EndedWith, TrappedWith}
use Rattle.flow_graph.specs.declared.graph.ArrayUse.{ArrayUse}
use Rattle.flow_graph.specs.declared.graph.Operand.{Operand}
use Rattle.flow_graph.specs.declared.graph.Operand.TheVariants.{Const, Object}
use Rattle.flow_graph.specs.declared.graph.Object as declared
use Rattle.flow_graph.specs.declared.graph.Op.{Op}
use Rattle.flow_graph.specs.declared.graph.OpKind.{OpKind}
use Rattle.flow_graph.specs.declared.graph.OpKind.TheVariants as kind
use Rattle.flow_graph.specs.declared.graph.Graph.{Graph}
use Rattle.flow_graph.specs.declared.nodes.Next.{Next}
use Rattle.flow_graph.specs.declared.nodes.Next.TheVariants.{To, Either, Into, Returns, Ends}
use Rattle.flow_graph.specs.declared.nodes.Node.{Node}
use Rattle.flow_graph.specs.Nodes.{graph_nodes, node_in}
use Rattle.flow_graph.specs.Operations.{Words, words_of, word_at, with_word, operand_word, gives, passes}
use Rattle.flow_graph.specs.Flow.{Begin, BeginsOne, Spot, Did, Went, Ended, Trapped, Lost, Stand, At, Over, Told, at_element, behind_word, effect_by, execute, execute_at, flow_from, follow, followed, load, next_word, on_from, operate, outcome_of, return_to, start, store, write_worked, written}
use Rattle.flow_graph.specs.Rules.{IsGraph, ObjectFits, OpFits, OperandFits, parts_of}
use Rattle.flow_graph.specs.Results.{AreWords, IsOwn, IsWord}
use Rattle.flow_graph.specs.Laws.{RunsHaveResults}
use Rattle.flow_graph.proofs.StandLemmas.{found_in}

-- ---- what an operation makes of words

-- a word, or a trap of the program's own
abbrev pub IsWorked : Worked → Type 0
IsWorked (Gives w) = IsWord w
IsWorked (Traps t) = IsOwn t

modulo_word : (z : ℤ) → IsWord (modulo z (2 ^ 16))
modulo_word (pos a) = let lt : a % 65536 < 65536 = omega arith in lt
modulo_word (negsuc a) = let lt : 65536 - 1 - a % 65536 < 65536 = omega arith in lt

kept_word : (ty : Ty) (z : ℤ) → IsWord (kept ty z)
kept_word ty z = modulo_word (wrapped ty z)

test_word : (b : Bool) → IsWord (from_test b)
test_word true = omega arith
test_word false = omega arith

divided_word : (d w : ℕ) → IsWord w → IsWorked (unless_zero d w)
divided_word zero w h = inl refl
divided_word (suc d) w h = h

shifted_word : (z : ℤ) (f : ℕ → ℕ) → ((n : ℕ) → IsWord (f n)) → IsWorked (shifted z f)
shifted_word (negsuc n) f h = inr (inr refl)
shifted_word (pos n) f h = by_test (nat_lt n 16)
  where
    by_test : (b : Bool) → IsWorked (if b then Gives (f n) else Traps shift_trap)
    by_test true = h n
    by_test false = inr (inr refl)

pub given_word : (k : OpKind) (a b : ℕ) → IsWord a → IsWord b → IsWorked (gives k a b)
given_word kind.Neg a b ha hb = kept_word U16 (neg_ℤ (value U16 a))
given_word kind.Inv a b ha hb = kept_word U16 (neg_ℤ (value U16 a) -ℤ pos 1)
given_word kind.ToU8 a b ha hb = kept_word U8 (value U16 a)
given_word kind.ToS8 a b ha hb = kept_word I8 (value U16 a)
given_word kind.Add a b ha hb = kept_word U16 (value U16 a +ℤ value U16 b)
given_word kind.Sub a b ha hb = kept_word U16 (value U16 a -ℤ value U16 b)
given_word kind.BitAnd a b ha hb = and_lt 16 a b ha hb
given_word kind.BitOr a b ha hb = or_lt 16 a b ha hb
given_word kind.BitXor a b ha hb = xor_lt 16 a b ha hb
given_word kind.Mul a b ha hb = kept_word U16 (value U16 a *ℤ value U16 b)
given_word kind.DivS a b ha hb = divided_word b (kept I16 (int_div (value I16 a) (value I16 b))) (kept_word I16 (int_div (value I16 a) (value I16 b)))
given_word kind.DivU a b ha hb = divided_word b (kept U16 (int_div (value U16 a) (value U16 b))) (kept_word U16 (int_div (value U16 a) (value U16 b)))
given_word kind.RemS a b ha hb = divided_word b (kept I16 (int_rem (value I16 a) (value I16 b))) (kept_word I16 (int_rem (value I16 a) (value I16 b)))
given_word kind.RemU a b ha hb = divided_word b (kept U16 (int_rem (value U16 a) (value U16 b))) (kept_word U16 (int_rem (value U16 a) (value U16 b)))
given_word kind.Shl a b ha hb = shifted_word (value U16 b) (λ n. kept U16 (value U16 a *ℤ pos (2 ^ n))) (λ n. kept_word U16 (value U16 a *ℤ pos (2 ^ n)))
given_word kind.ShrS a b ha hb = shifted_word (value U16 b) (λ n. kept I16 (halved (value I16 a) n)) (λ n. kept_word I16 (halved (value I16 a) n))
given_word kind.ShrU a b ha hb = shifted_word (value U16 b) (λ n. kept U16 (halved (value U16 a) n)) (λ n. kept_word U16 (halved (value U16 a) n))
given_word kind.Eq a b ha hb = test_word (a == b)
given_word kind.Ne a b ha hb = test_word (not (a == b))
given_word kind.LtS a b ha hb = test_word (int_lt (value I16 a) (value I16 b))
given_word kind.LtU a b ha hb = test_word (int_lt (value U16 a) (value U16 b))
given_word kind.LeS a b ha hb = test_word (not (int_lt (value I16 b) (value I16 a)))
given_word kind.LeU a b ha hb = test_word (not (int_lt (value U16 b) (value U16 a)))
given_word kind.Step a b ha hb = let lt : (a + 1) % 65536 < 65536 = omega arith in lt
given_word k a b ha hb = ha

-- ---- the words of objects

-- where each element has a property, each has it behind one that is set to such
each_set : {X : Type 0} (P : X → Type 0) (xs : List X) (i : ℕ) (x d : X) → P d → P x → ((j : ℕ) → P (slice_index_or xs j d)) → (j : ℕ) → P (slice_index_or (set xs i x) j d)
each_set P xs i x d default new old j = elim (cases_eq j i) [
  | inl same ↦ elim (cases_lt i (length xs)) [
    | inl lt ↦ subst P (sym (ap (λ k. slice_index_or (set xs i x) k d) same ∙ get_or-set_same xs i x d lt)) new
    | inr le ↦ let n = length-set xs i x in subst P (sym (get_or_past (set xs i x) j d (omega arith))) default
  ]
  | inr other ↦ subst P (sym (get_or-set_other xs i j x d other)) (old j)
]

abbrev EachWord : List ℕ → Type 0
EachWord ws = (k : ℕ) → IsWord (slice_index_or ws k 0)

word_set : (objects : Words) (o k w : ℕ) → IsWord w → AreWords objects → AreWords (with_word objects o k w)
word_set objects o k w small h =
    each_set EachWord objects o (set (words_of objects o) k w) [] (λ j. omega arith) (each_set IsWord (words_of objects o) k w 0 (omega arith) small (h o)) h

operand_is_word : (g : Graph) (objects : Words) (used : Bool) (a : Operand) → OperandFits g used a → AreWords objects → IsWord (operand_word objects a)
operand_is_word g objects true (Const w) fits h = fits
operand_is_word g objects false (Const w) fits h = let e : Const w ≡ Const 0 = fits in subst IsWord (ap (operand_word objects) (sym e)) (omega arith)
operand_is_word g objects used (Object o) fits h = h o 0

-- ---- one operation

abbrev pub Tells : Did → Type 0
Tells (Went ws s) = All IsWord ws × AreWords s.objects
Tells (Ended w) = IsWord w
Tells (Trapped t) = IsOwn t
Tells Lost = ⊤

write_tells : (dest : Option ℕ) (w : ℕ) (s : Spot) → IsWord w → AreWords s.objects → Tells (Went [] (written dest w s))
write_tells None w s small h = (All-nil IsWord, h)
write_tells (Some o) w s small h = (All-nil IsWord, word_set s.objects o 0 w small h)

worked_tells : (dest : Option ℕ) (x : Worked) (s : Spot) → IsWorked x → AreWords s.objects → Tells (write_worked dest x s)
worked_tells dest (Gives w) s small h = write_tells dest w s small h
worked_tells dest (Traps t) s own h = own

element_tells : (b : Bool) (d : Did) → Tells d → Tells (at_element b d)
element_tells true d h = h
element_tells false d h = inr (inl refl)

load_tells : (array : Option ArrayUse) (dest : Option ℕ) (i : ℕ) (s : Spot) → AreWords s.objects → Tells (load array dest i s)
load_tells None dest i s h = tt
load_tells (Some u) dest i s h = element_tells (nat_lt i u.length) (Went [] (written dest (word_at s.objects u.object i) s)) (write_tells dest (word_at s.objects u.object i) s (h u.object i) h)

store_tells : (array : Option ArrayUse) (w i : ℕ) (s : Spot) → IsWord w → AreWords s.objects → Tells (store array w i s)
store_tells None w i s small h = tt
store_tells (Some u) w i s small h = element_tells (nat_lt i u.length) (Went [] (record s { objects = with_word s.objects u.object i w })) (All-nil IsWord, word_set s.objects u.object i w small h)

next_is_word : (input : List ℕ) → IsWord (next_word input)
next_is_word [] = omega arith
next_is_word (w ∷ ws) = let lt : w % 65536 < 65536 = omega arith in lt

effect_tells : (k : OpKind) (op : Op) (a b : ℕ) (s : Spot) → IsWord a → IsWord b → AreWords s.objects → Tells (effect_by k op a b s)
effect_tells kind.Load op a b s ha hb h = load_tells op.array op.dest a s h
effect_tells kind.Store op a b s ha hb h = store_tells op.array a b s ha h
effect_tells kind.Input op a b s ha hb h = write_tells op.dest (next_word s.input) (record s { input = behind_word s.input }) (next_is_word s.input) h
effect_tells kind.Output op a b s ha hb h = (All-cons IsWord a [] ha (All-nil IsWord), h)
effect_tells kind.Finish op a b s ha hb h = ha
effect_tells k op a b s ha hb h = worked_tells op.dest (gives k a b) s (given_word k a b ha hb) h

return_tells : (cs ws : List ℕ) (s : Spot) → All IsWord ws → AreWords s.objects → Tells (return_to cs ws s)
return_tells [] ws s hw h = tt
return_tells (c ∷ cs) ws s hw h = (hw, h)

follow_tells : (g : Graph) (next : Next) (passed : Bool) (ws : List ℕ) (s : Spot) → All IsWord ws → AreWords s.objects → Tells (follow g next passed ws s)
follow_tells g (To n) passed ws s hw h = (hw, h)
follow_tells g (Either n m) passed ws s hw h = (hw, h)
follow_tells g (Into f n) passed ws s hw h = (hw, h)
follow_tells g Returns passed ws s hw h = return_tells s.calls ws s hw h
follow_tells g Ends passed ws s hw h = tt

followed_tells : (g : Graph) (next : Next) (passed : Bool) (d : Did) → Tells d → Tells (followed g next passed d)
followed_tells g next passed (Went ws s) h = follow_tells g next passed ws s h.0 h.1
followed_tells g next passed (Ended w) h = h
followed_tells g next passed (Trapped t) h = h
followed_tells g next passed Lost h = tt

execute_tells : (g : Graph) (x : Node) (s : Spot) → OpFits g x.op → AreWords s.objects → Tells (execute g x s)
execute_tells g x s fits h =
    let a = operand_is_word g s.objects (parts_of x.op.kind).a x.op.a fits.a h in
    let b = operand_is_word g s.objects (parts_of x.op.kind).b x.op.b fits.b h in
    followed_tells g x.next (passes x.op.kind (operand_word s.objects x.op.a) (operand_word s.objects x.op.b)) _
    (effect_tells x.op.kind x.op (operand_word s.objects x.op.a) (operand_word s.objects x.op.b) s a b h)

pub operate_tells : (g : Graph) (s : Spot) → IsGraph g → AreWords s.objects → Tells (operate g s)
operate_tells g s rules h = by_node (node_in (graph_nodes g) s.at) refl
  where
    by_node : (n : Option Node) → node_in (graph_nodes g) s.at ≡ n → Tells (execute_at g n s)
    by_node None e = tt
    by_node (Some x) e = let t = found_in (graph_nodes g) s.at x e in execute_tells g x s (rules.operations t.place x t.is_there) h

-- ---- m operations

abbrev IsStop : Outcome → Type 0
IsStop Going = ⊤
IsStop (EndedWith w) = IsWord w
IsStop (TrappedWith t) = IsOwn t

abbrev StandTells : Stand → Type 0
StandTells (At s) = AreWords s.objects
StandTells (Over o) = IsStop o

record ToldWords (t : Told) : Type 0 where
  pub words : All IsWord t.words
  pub stand : StandTells t.stand

on_tells : (g : Graph) (m : ℕ) (d : Did) → Tells d → ((s : Spot) → AreWords s.objects → ToldWords (flow_from g m s)) → ToldWords (on_from (flow_from g m) d)
on_tells g m (Went ws s) h ih = let r = ih s h.1 in record { words = All-append IsWord ws (flow_from g m s).words h.0 r.words; stand = r.stand }
on_tells g m (Ended w) h ih = record { words = All-nil IsWord; stand = h }
on_tells g m (Trapped t) h ih = record { words = All-nil IsWord; stand = h }
on_tells g m Lost h ih = record { words = All-nil IsWord; stand = tt }

told_words : (g : Graph) (m : ℕ) (s : Spot) → IsGraph g → AreWords s.objects → ToldWords (flow_from g m s)
told_words g zero s rules h = record { words = All-nil IsWord; stand = h }
told_words g (suc m) s rules h = on_tells g m (operate g s) (operate_tells g s rules h) (λ t k. told_words g m t rules k)

-- ---- the law

begins_words : (first : List ℕ) (n : ℕ) (ws : List ℕ) → All IsWord first → BeginsOne first n ws → EachWord ws
begins_words first n ws small begin k = elim (cases_lt k (length ws)) [
  | inl lt ↦ of_words first small begin k 0 lt
  | inr le ↦ subst IsWord (sym (get_or_past ws k 0 le)) (omega arith)
]
  where
    of_words : (xs : List ℕ) → All IsWord xs → BeginsOne xs n ws → All IsWord ws
    of_words [] h b = b.1
    of_words (w ∷ more) h b = subst (All IsWord) (sym b) h

begin_words : (os : List declared.Object) (all : Words) → ((o : ℕ) (x : declared.Object) → slice_get os o ≡ Some x → ObjectFits x) → Begin os all → AreWords all
begin_words [] [] fits begin o k = omega arith
begin_words [] (ws ∷ more) fits begin o k = absurd begin
begin_words (x ∷ os) [] fits begin o k = absurd begin
begin_words (x ∷ os) (ws ∷ more) fits begin zero k = begins_words x.first x.words ws (fits 0 x refl).words begin.0 k
begin_words (x ∷ os) (ws ∷ more) fits begin (suc o) k = begin_words os more (λ p y e. fits (suc p) y e) begin.1 o k

stop_of : (t : Told) (o : Outcome) → StandTells t.stand → outcome_of t.stand ≡ o → IsStop o
stop_of t o h e = by_stand t.stand h e
  where
    by_stand : (s : Stand) → StandTells s → outcome_of s ≡ o → IsStop o
    by_stand (At s) h e = subst IsStop e tt
    by_stand (Over p) h e = subst IsStop e h

pub runs_have_results : RunsHaveResults
runs_have_results g objects input rules begin = record {
  held = λ n ws s e. subst StandTells (ap (λ (t : Told). t.stand) e) (all n).stand;
  words = λ n. (all n).words;
  ends = λ n w e. stop_of (flow_from g n (start g objects input)) (EndedWith w) (all n).stand e;
  traps = λ n t e. stop_of (flow_from g n (start g objects input)) (TrappedWith t) (all n).stand e;
}
  where
    all : (n : ℕ) → ToldWords (flow_from g n (start g objects input))
    all n = told_words g n (start g objects input) rules (begin_words g.objects objects rules.objects begin)
