-- What an operation leaves of the objects: their sizes, and the first word of each object that it doesn't write.
use Rattle.std.proofs.Common.{◌≡◌, ◌≢◌, ℕ, ◌+◌, ◌%◌, ◌^◌, Bool, true, false, List, [], ◌++◌, refl, sym, ap, subst, ◌∙◌, arith}
use Rattle.std.specs.Prelude.{Option, None, Some, slice_index_or, nat_lt, ⊤, Contains}
use Rattle.std.proofs.lemmas.Bool.{false≢true}
use Rattle.std.proofs.lemmas.List.Elements.{Contains-append_right}
use Rattle.c_values.specs.Values.{Worked, Gives, Traps}
use Rattle.flow_graph.specs.declared.graph.ArrayUse.{ArrayUse}
use Rattle.flow_graph.specs.declared.graph.Op.{Op}
use Rattle.flow_graph.specs.declared.graph.OpKind.{OpKind}
use Rattle.flow_graph.specs.declared.graph.OpKind.TheVariants as kind
use Rattle.flow_graph.specs.declared.graph.Graph.{Graph}
use Rattle.flow_graph.specs.Operations.{Words, word_at, with_word, gives}
use Rattle.flow_graph.specs.Flow.{Spot, Did, Went, Ended, at_element, behind_word, effect, effect_by, load, next_word, store, write_worked, written}
use Rattle.flow_graph.specs.Rules.{DestFits, OpFits, array_of, dest_of, is_kind, parts_of, stored, written as writes_of}
use Rattle.flow_graph.specs.Closed.{AreSized}
use Rattle.flow_graph.proofs.ObjectLemmas.{count_same, element_same, length_same, object_other}
use Rattle.flow_graph.proofs.StandLemmas.{dest_is_scalar, has_words}

-- the first words of the objects that aren't among these stay
abbrev pub Untouched : Op → Words → Words → Type 0
Untouched op a b = (i : ℕ) → (Contains (writes_of op) i → ⊥) → word_at b i 0 ≡ word_at a i 0

pub record Leaves (g : Graph) (op : Op) (s t : Spot) : Type 0 where
  pub calls : t.calls ≡ s.calls
  pub sized : AreSized g t.objects
  pub untouched : Untouched op s.objects t.objects

abbrev Effected : Graph → Op → Spot → Did → Type 0
Effected g op s (Went ws t) = Leaves g op s t
Effected g op s _ = ⊤

sized_with : (g : Graph) (objects : Words) (o k w : ℕ) → AreSized g objects → AreSized g (with_word objects o k w)
sized_with g objects o k w h = record { count = count_same objects o k w ∙ h.count; sizes = λ p x e. length_same objects o k w p ∙ h.sizes p x e }

word_other : (objects : Words) (o k w i : ℕ) → i ≢ o → word_at (with_word objects o k w) i 0 ≡ word_at objects i 0
word_other objects o k w i ne = ap (λ l. slice_index_or l 0 0) (object_other objects o k w i ne)

-- what is written into the destination, from a spot with the same objects
into_dest : (g : Graph) (op : Op) (s t : Spot) (dest : Option ℕ) (w : ℕ) → op.dest ≡ dest → t.calls ≡ s.calls → t.objects ≡ s.objects → AreSized g s.objects → Leaves g op s (written dest w t)
into_dest g op s t None w d c o h = record { calls = c; sized = subst (AreSized g) (sym o) h; untouched = λ i n. ap (λ x. word_at x i 0) o }
into_dest g op s t (Some p) w d c o h = record {
  calls = c;
  sized = sized_with g t.objects p 0 w (subst (AreSized g) (sym o) h);
  untouched = λ i n. word_other t.objects p 0 w i (λ e. n (subst (λ x. Contains (dest_of x ++ stored op.kind op) i) (sym d) (0, omega arith, sym e))) ∙ ap (λ x. word_at x i 0) o;
}

worked : (g : Graph) (op : Op) (s : Spot) (x : Worked) → AreSized g s.objects → Effected g op s (write_worked op.dest x s)
worked g op s (Gives w) h = into_dest g op s s op.dest w refl refl refl h
worked g op s (Traps t) h = tt

element : (g : Graph) (op : Op) (s : Spot) (b : Bool) (d : Did) → Effected g op s d → Effected g op s (at_element b d)
element g op s true d h = h
element g op s false d h = tt

loaded : (g : Graph) (op : Op) (s : Spot) (array : Option ArrayUse) (i : ℕ) → AreSized g s.objects → Effected g op s (load array op.dest i s)
loaded g op s None i h = tt
loaded g op s (Some u) i h = element g op s (nat_lt i u.length) (Went [] (written op.dest (word_at s.objects u.object i) s)) (into_dest g op s s op.dest (word_at s.objects u.object i) refl refl refl h)

into_array : (g : Graph) (op : Op) (s : Spot) (array : Option ArrayUse) (w i : ℕ) → op.kind ≡ kind.Store → op.array ≡ array → AreSized g s.objects → Effected g op s (store array w i s)
into_array g op s None w i k e h = tt
into_array g op s (Some u) w i k e h = element g op s (nat_lt i u.length) (Went [] (record s { objects = with_word s.objects u.object i w })) (record {
  calls = refl;
  sized = sized_with g s.objects u.object i w h;
  untouched = λ j n. word_other s.objects u.object i w j (λ same.
      n (Contains-append_right (dest_of op.dest) (stored op.kind op) j
      (subst (λ x. Contains (stored x op) j) (sym k) (subst (λ x. Contains (array_of x) j) (sym e) (0, omega arith, sym same)))));
})

by_kind : (k : OpKind) (g : Graph) (op : Op) (a b : ℕ) (s : Spot) → op.kind ≡ k → AreSized g s.objects → Effected g op s (effect_by k op a b s)
by_kind kind.Load g op a b s e h = loaded g op s op.array a h
by_kind kind.Store g op a b s e h = into_array g op s op.array a b e refl h
by_kind kind.Input g op a b s e h = into_dest g op s (record s { input = behind_word s.input }) op.dest (next_word s.input) refl refl refl h
by_kind kind.Output g op a b s e h = record { calls = refl; sized = h; untouched = λ i n. refl }
by_kind kind.Finish g op a b s e h = tt
by_kind k g op a b s e h = worked g op s (gives k a b) h

pub leaves : (g : Graph) (op : Op) (a b : ℕ) (s t : Spot) (ws : List ℕ) → AreSized g s.objects → effect op a b s ≡ Went ws t → Leaves g op s t
leaves g op a b s t ws h e = subst (Effected g op s) e (by_kind op.kind g op a b s refl h)

-- ---- kinds

pub is_step_kind : (k : OpKind) → is_kind k kind.Step ≡ true → k ≡ kind.Step
is_step_kind kind.Step e = refl
is_step_kind _ e = absurd (false≢true e)

pub is_copy_kind : (k : OpKind) → is_kind k kind.Copy ≡ true → k ≡ kind.Copy
is_copy_kind kind.Copy e = refl
is_copy_kind _ e = absurd (false≢true e)

pub is_below_kind : (k : OpKind) → is_kind k kind.Below ≡ true → k ≡ kind.Below
is_below_kind kind.Below e = refl
is_below_kind _ e = absurd (false≢true e)

pub is_test_kind : (k : OpKind) → is_kind k kind.Test ≡ true → k ≡ kind.Test
is_test_kind kind.Test e = refl
is_test_kind _ e = absurd (false≢true e)

pub is_call_kind : (k : OpKind) → is_kind k kind.Call ≡ true → k ≡ kind.Call
is_call_kind kind.Call e = refl
is_call_kind _ e = absurd (false≢true e)

pub is_return_kind : (k : OpKind) → is_kind k kind.Ret ≡ true → k ≡ kind.Ret
is_return_kind kind.Ret e = refl
is_return_kind _ e = absurd (false≢true e)

pub is_finish_kind : (k : OpKind) → is_kind k kind.Finish ≡ true → k ≡ kind.Finish
is_finish_kind kind.Finish e = refl
is_finish_kind _ e = absurd (false≢true e)

pub is_go_kind : (k : OpKind) → is_kind k kind.Go ≡ true → k ≡ kind.Go
is_go_kind kind.Go e = refl
is_go_kind _ e = absurd (false≢true e)

-- ---- operations that write nothing

pub no_dest : (g : Graph) (op : Op) (k : OpKind) → OpFits g op → op.kind ≡ k → (parts_of k).dest ≡ false → op.dest ≡ None
no_dest g op k fits e d = subst (λ b. DestFits g b op.dest) d (subst (λ x. DestFits g (parts_of x).dest op.dest) e fits.dest)

still : (op : Op) (w : ℕ) (s : Spot) → op.dest ≡ None → write_worked op.dest (Gives w) s ≡ Went [] s
still op w s d = ap (λ x. write_worked x (Gives w) s) d

pub below_still : (g : Graph) (op : Op) (a b : ℕ) (s : Spot) → OpFits g op → op.kind ≡ kind.Below → effect op a b s ≡ Went [] s
below_still g op a b s fits e = ap (λ k. effect_by k op a b s) e ∙ still op a s (no_dest g op kind.Below fits e refl)

pub test_still : (g : Graph) (op : Op) (a b : ℕ) (s : Spot) → OpFits g op → op.kind ≡ kind.Test → effect op a b s ≡ Went [] s
test_still g op a b s fits e = ap (λ k. effect_by k op a b s) e ∙ still op a s (no_dest g op kind.Test fits e refl)

pub call_still : (g : Graph) (op : Op) (a b : ℕ) (s : Spot) → OpFits g op → op.kind ≡ kind.Call → effect op a b s ≡ Went [] s
call_still g op a b s fits e = ap (λ k. effect_by k op a b s) e ∙ still op a s (no_dest g op kind.Call fits e refl)

pub go_still : (g : Graph) (op : Op) (a b : ℕ) (s : Spot) → OpFits g op → op.kind ≡ kind.Go → effect op a b s ≡ Went [] s
go_still g op a b s fits e = ap (λ k. effect_by k op a b s) e ∙ still op a s (no_dest g op kind.Go fits e refl)

pub return_still : (g : Graph) (op : Op) (a b : ℕ) (s : Spot) → OpFits g op → op.kind ≡ kind.Ret → effect op a b s ≡ Went [] s
return_still g op a b s fits e = ap (λ k. effect_by k op a b s) e ∙ still op a s (no_dest g op kind.Ret fits e refl)

pub finish_ends : (op : Op) (a b : ℕ) (s : Spot) → op.kind ≡ kind.Finish → effect op a b s ≡ Ended a
finish_ends op a b s e = ap (λ k. effect_by k op a b s) e

-- ---- the word that a copy and a step write

written_word : (g : Graph) (op : Op) (s t : Spot) (i w : ℕ) (ws : List ℕ) → OpFits g op → op.dest ≡ Some i → AreSized g s.objects → write_worked op.dest (Gives w) s ≡ Went ws t → word_at t.objects i 0 ≡ w
written_word g op s t i w ws fits d h e =
    let went : Went [] (written (Some i) w s) ≡ Went ws t = sym (ap (λ x. write_worked x (Gives w) s) d) ∙ e in
    let same : written (Some i) w s ≡ t = cc in
    let n = has_words g s.objects i 1 h (dest_is_scalar g op i fits d) in
    let long = n.1 in
    ap (λ (x : Spot). word_at x.objects i 0) (sym same) ∙ element_same s.objects i 0 w n.0 (omega (arith, long))

pub copied : (g : Graph) (op : Op) (a b : ℕ) (s t : Spot) (i : ℕ) (ws : List ℕ) → OpFits g op → op.kind ≡ kind.Copy → op.dest ≡ Some i → AreSized g s.objects → effect op a b s ≡ Went ws t → word_at t.objects i 0 ≡ a
copied g op a b s t i ws fits k d h e = written_word g op s t i a ws fits d h (sym (ap (λ x. effect_by x op a b s) k) ∙ e)

pub stepped : (g : Graph) (op : Op) (a b : ℕ) (s t : Spot) (i : ℕ) (ws : List ℕ) → OpFits g op → op.kind ≡ kind.Step → op.dest ≡ Some i → AreSized g s.objects → effect op a b s ≡ Went ws t
    → word_at t.objects i 0 ≡ (a + 1) % 2 ^ 16
stepped g op a b s t i ws fits k d h e = written_word g op s t i ((a + 1) % 2 ^ 16) ws fits d h (sym (ap (λ x. effect_by x op a b s) k) ∙ e)
