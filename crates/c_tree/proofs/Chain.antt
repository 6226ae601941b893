-- How calls made one after another stand to the parts of the meaning, one after another.
use Rattle.std.proofs.Common.{◌≡◌, ℕ, zero, suc, ◌+◌, ◌-◌, ◌<◌, ◌≤◌, List, [], ◌∷◌, ◌++◌, take, drop, Option, Some, None, refl, sym, ap, ◌∙◌, subst, arith, append_assoc, append-nil}
use Rattle.std.proofs.lemmas.List.{take-append-drop}
use Rattle.std.specs.Prelude.{Result, Ok, Err, MatchResult}
use Rattle.base_io.specs.Counts.{Rose, CountsFaults}
use Rattle.base_io.specs.Pieces.{AddsTold}
use Rattle.c_values.specs.Values.{Worked, Gives, Traps}
use Rattle.c_tree.specs.declared.tree.Program.{Program}
use Rattle.c_tree.specs.declared.tree.Expr.{Expr}
use Rattle.c_tree.specs.declared.tree.ExprKind.{out-ExprKind}
use Rattle.c_tree.specs.declared.tree.Stmt.{Stmt}
use Rattle.c_tree.specs.declared.tree.StmtKind.{out-StmtKind}
use Rattle.c_tree.specs.declared.leaving.Leaving.{Leaving}
use Rattle.c_tree.specs.Runs.{Event, Begun, State, Got, Done, Trapped, Stopped, Part, go_on, behind_events, begin, begin_at, begin_each, pure, trap, word_or_trap, put}
use Rattle.c_tree.specs.Nodes.{expr_by, stmt_by, turn_by, next_turn, to_depth}
use Rattle.c_tree.specs.Meaning.{put_words, events}
use Rattle.c_tree.specs.Lines.{Seen, Took, line, lines}
use Rattle.c_tree.specs.declared.halt.Halt.{Halt}
use Rattle.c_tree.specs.declared.halt.Halt.TheVariants as halt
use Rattle.c_tree.specs.Follows.{Follows, Leads, Whole, IsDone, IsPartly}
use Rattle.c_tree.proofs.Shown.{put_words-append, begun-append, events_behind, events_on}

lines-append : (xs ys : List ℕ) → lines (xs ++ ys) ≡ lines xs ++ lines ys
lines-append [] ys = refl
lines-append (x ∷ xs) ys = ap (λ l. line x ++ l) (lines-append xs ys) ∙ sym (append_assoc (line x) (lines xs) (lines ys))

told-append : (es fs : List Event) → lines (put_words (es ++ fs)) ≡ lines (put_words es) ++ lines (put_words fs)
told-append es fs = ap lines (put_words-append es fs) ∙ lines-append (put_words es) (put_words fs)

pub took_none : (a : Option (List ℕ)) → Took a a []
took_none None = tt
took_none (Some ws) = simp append-nil

took_both : (a b c : Option (List ℕ)) (x y : List ℕ) → Took a b x → Took b c y → Took a c (x ++ y)
took_both None None None x y h k = tt
took_both None None (Some c) x y h k = k
took_both None (Some b) c x y h k = absurd h
took_both (Some a) None c x y h k = absurd h
took_both (Some a) (Some b) None x y h k = k
took_both (Some a) (Some b) (Some c) x y h k = k ∙ ap (λ l. l ++ y) h ∙ append_assoc a x y

whole_both : (s s1 s2 : State) (a b c : Seen) (es fs : List Event) → Whole s a es s1 b → Whole s1 b fs s2 c → Whole s a (es ++ fs) s2 c
whole_both s s1 s2 a b c es fs h k = record {
  words = rw (told-append es fs) (took_both a.taken b.taken c.taken _ _ h.words k.words);
  steps = omega (arith, begun-append es fs, h.steps, k.steps);
  faults = k.faults ∙ h.faults;
}

partly_behind : {A B : Type 0} (got : Got A) (f : A → Part B) (s s1 : State) (a b c : Seen) (v : A) → IsDone got s a v s1 b → IsPartly (f v s1) b c → IsPartly (go_on got f) a c
partly_behind got f s s1 a b c v h k = record {
  bytes = lines (put_words h.es) ++ k.bytes;
  rest = k.rest;
  is = ap (λ g. lines (put_words (events (go_on g f)))) h.is ∙ ap (λ es. lines (put_words es)) (events_behind h.es (f v s1)) ∙ told-append h.es (events (f v s1))
      ∙ ap (λ l. lines (put_words h.es) ++ l) k.is ∙ sym (append_assoc (lines (put_words h.es)) k.bytes k.rest);
  words = took_both a.taken b.taken c.taken _ _ h.whole.words k.words;
}

partly_before : {A B : Type 0} (got : Got A) (f : A → Part B) (a b : Seen) → IsPartly got a b → IsPartly (go_on got f) a b
partly_before got f a b k =
    let m = events_on got f in
    record {
      bytes = k.bytes;
      rest = k.rest ++ lines (put_words m.0);
      is = ap (λ es. lines (put_words es)) m.1 ∙ told-append (events got) m.0 ∙ ap (λ l. l ++ lines (put_words m.0)) k.is ∙ append_assoc k.bytes k.rest _;
      words = k.words;
    }

-- a call that answers, and then another
pub follows_ok : {A B : Type 0} (got : Got A) (f : A → Part B) (s s1 s2 : State) (a b c : Seen) (v : A) (r : Result B Halt)
    → Follows got s a (Ok v) s1 b → Follows (f v s1) s1 b r s2 c → Follows (go_on got f) s a r s2 c
follows_ok got f s s1 s2 a b c v (Ok x) h k = record {
  es = h.es ++ k.es;
  is = ap (λ g. go_on g f) h.is ∙ ap (behind_events h.es) k.is;
  whole = whole_both s s1 s2 a b c h.es k.es h.whole k.whole;
}
follows_ok got f s s1 s2 a b c v (Err (halt.Trap t)) h k = record {
  es = h.es ++ k.es;
  is = ap (λ g. go_on g f) h.is ∙ ap (behind_events h.es) k.is;
  whole = whole_both s s1 s2 a b c h.es k.es h.whole k.whole;
}
follows_ok got f s s1 s2 a b c v (Err halt.Stopped) h k = record {
  es = h.es ++ k.es;
  is = ap (λ g. go_on g f) h.is ∙ ap (behind_events h.es) k.is;
  whole = whole_both s s1 s2 a b c h.es k.es h.whole k.whole;
}
follows_ok got f s s1 s2 a b c v (Err halt.Sink) h k =
    (partly_behind got f s s1 a b c v h k.0, subst (λ n. (n ≤ c.faults) × Rose n c.faults) h.whole.faults k.1)
follows_ok got f s s1 s2 a b c v (Err halt.Memory) h k = (partly_behind got f s s1 a b c v h k.0, k.1 ∙ h.whole.faults)

-- a call that doesn't answer, and so ends what would follow
pub follows_err : {A B : Type 0} (got : Got A) (f : A → Part B) (s s1 : State) (a b : Seen) (h : Halt)
    → Follows got s a (Err h) s1 b → Follows (go_on got f) s a (Err h) s1 b
follows_err got f s s1 a b (halt.Trap t) k = record { es = k.es; is = ap (λ g. go_on g f) k.is; whole = k.whole }
follows_err got f s s1 a b halt.Stopped k = record { es = k.es; is = ap (λ g. go_on g f) k.is; whole = k.whole }
follows_err got f s s1 a b halt.Sink k = (partly_before got f a b k.0, k.1)
follows_err got f s s1 a b halt.Memory k = (partly_before got f a b k.0, k.1)

pub fails : {A B : Type 0} (got : Got A) (f : A → Part B) (s s1 : State) (a b : Seen) (h : Halt) (r : Result B Halt)
    → r ≡ Err h → Follows got s a (Err h) s1 b → Follows (go_on got f) s a r s1 b
fails got f s s1 a b h r e k = rw e (follows_err got f s s1 a b h k)

-- a part that shows nothing and takes no step
pub follows_quiet : {A : Type 0} (got : Got A) (s s1 : State) (a : Seen) (v : A) → got ≡ Done [] v s1 → s1.left ≡ s.left → Follows got s a (Ok v) s1 a
follows_quiet got s s1 a v h k = record { es = []; is = h; whole = record { words = took_none a.taken; steps = omega (arith, k); faults = refl } }

pub follows_trap : {A : Type 0} (got : Got A) (s : State) (a : Seen) (t : ℕ) → got ≡ Trapped [] t → Follows got s a (Err (halt.Trap t)) s a
follows_trap got s a t h = record { es = []; is = h; whole = record { words = took_none a.taken; steps = omega arith; faults = refl } }

pub follows_stop : {A : Type 0} (got : Got A) (s : State) (a : Seen) → got ≡ Stopped [] → Follows got s a (Err halt.Stopped) s a
follows_stop got s a h = record { es = []; is = h; whole = record { words = took_none a.taken; steps = omega arith; faults = refl } }

-- a call that gives up at once
pub gives_up : {A : Type 0} (got : Got A) (s s1 : State) (a : Seen) → Follows got s a (Err halt.Memory) s1 a
gives_up got s s1 a = (record { bytes = []; rest = lines (put_words (events got)); is = refl; words = took_none a.taken }, refl)

begin_at_left : (n : ℕ) (s s1 : State) → begin_at n s ≡ Done (Begun ∷ []) tt s1 → s1.left + 1 ≡ n
begin_at_left zero s s1 h = cc
begin_at_left (suc n) s s1 h = let e : record s { left = n } ≡ s1 = cc in omega (arith, ap (λ (q : State). q.left) e)

pub begin_left : (s s1 : State) → begin s ≡ Done (Begun ∷ []) tt s1 → s1.left + 1 ≡ s.left
begin_left s s1 h = begin_at_left s.left s s1 h

-- a step begun
pub follows_begin : (s s1 : State) (a : Seen) → begin s ≡ Done (Begun ∷ []) tt s1 → Follows (begin s) s a (Ok tt) s1 a
follows_begin s s1 a h = record { es = Begun ∷ []; is = h; whole = record { words = took_none a.taken; steps = omega (arith, begin_left s s1 h); faults = refl } }

pub works : (w : Worked) (s : State) (a : Seen) (r : Result ℕ Halt)
    → MatchResult r (λ v. w ≡ Gives v) (λ h. (t : ℕ) × (h ≡ halt.Trap t) × (w ≡ Traps t))
    → Follows (word_or_trap w s) s a r s a
works w s a (Ok v) e = rw e (follows_quiet (pure v s) s s a v refl refl)
works w s a (Err h) (t, e, k) = rw (e, k) (follows_trap {A = ℕ} (trap t s) s a t refl)

-- a line that the sink didn't take whole
partly_line : (w : ℕ) (s : State) (a b : Option (List ℕ)) {T E : Type 0} (r : Result T E) (e : E) → r ≡ Err e → AddsTold (line w) r a b → (n : ℕ) × Took a b (take n (line w))
partly_line w s None None (Ok x) e q h = cc
partly_line w s None (Some b) (Ok x) e q h = cc
partly_line w s (Some a) None (Ok x) e q h = cc
partly_line w s (Some a) (Some b) (Ok x) e q h = cc
partly_line w s None None (Err x) e q h = (0, tt)
partly_line w s None (Some b) (Err x) e q h = absurd h
partly_line w s (Some a) None (Err x) e q h = absurd h
partly_line w s (Some a) (Some b) (Err x) e q h = (h.0, h.2)

pub put_fails : {E : Type 0} (w : ℕ) (s : State) (a b : Seen) (e : E) → AddsTold {T = Unit {0}} (line w) (Err e) a.taken b.taken
    → CountsFaults {T = Unit {0}} (Err e) a.faults b.faults → Follows (put w s) s a (Err halt.Sink) s b
put_fails {E} w s a b e told cause =
    let h = partly_line w s a.taken b.taken {T = Unit {0}} (Err e) e refl told in (
      record {
        bytes = take h.0 (line w);
        rest = drop h.0 (line w);
        is = append-nil (line w) ∙ sym (take-append-drop h.0 (line w));
        words = h.1;
      },
      cause,
    )

pub quiet_begin : (s s1 : State) (r : Result (Unit {0}) Halt)
    → MatchResult r (λ _. begin s ≡ Done (Begun ∷ []) tt s1) (λ h. (h ≡ halt.Stopped) × (begin s ≡ Stopped []) × (s1 ≡ s))
    → (a : Seen) → Follows (begin s) s a r s1 a
quiet_begin s s1 (Ok tt) h a = follows_begin s s1 a h
quiet_begin s s1 (Err x) h a = rw (h.0, h.2) (follows_stop (begin s) s a h.1)

pub begin_each_more : (n : ℕ) → 0 < n → begin_each n ≡ (λ s. go_on (begin s) (λ _. begin_each (n - 1)))
begin_each_more zero h = absurd (omega (arith, h))
begin_each_more (suc n) h = let e : suc n - 1 ≡ n = omega arith in rw e refl

pub begin_each_none : (n : ℕ) → n ≤ 0 → (s : State) (a : Seen) → Follows (begin_each n s) s a (Ok tt) s a
begin_each_none zero h s a = follows_quiet _ _ _ _ _ refl refl
begin_each_none (suc n) h s a = absurd (omega (arith, h))

begun_down : (n : ℕ) (s s1 : State) (es : List Event) → begin_at n s ≡ Done es tt s1 → s1.left + 1 ≡ n
begun_down zero s s1 es h = cc
begun_down (suc n) s s1 es h = let e : record s { left = n } ≡ s1 = cc in omega (arith, ap (λ (q : State). q.left) e)

pub begun_left : (s s1 : State) (a b : Seen) → Follows (begin s) s a (Ok tt) s1 b → s1.left + 1 ≡ s.left
begun_left s s1 a b k = begun_down s.left s s1 k.es k.is

none_left : (n : ℕ) (s : State) → n ≤ 0 → begin_at n s ≡ Stopped []
none_left zero s h = refl
none_left (suc n) s h = absurd (omega (arith, h))

-- a level behind its step, where nothing is done at depth 0
levels_begun : {A : Type 0} (F G : ℕ → Part A) → ((s : State) → F 0 s ≡ Stopped []) → ((n : ℕ) (s : State) → F (suc n) s ≡ go_on (begin s) (λ _. G n))
    → (d : ℕ) (s s1 s2 : State) (a b c : Seen) (r : Result A Halt) → s.left ≤ d → Follows (begin s) s a (Ok tt) s1 b
    → ((n : ℕ) → s1.left ≤ n → Follows (G n s1) s1 b r s2 c) → Follows (F d s) s a r s2 c
levels_begun F G none more zero s s1 s2 a b c r le k rest = absurd (omega (arith, le, begun_down s.left s s1 k.es k.is))
levels_begun F G none more (suc n) s s1 s2 a b c r le k rest =
    rw (more n s) (follows_ok (begin s) (λ _. G n) s s1 s2 a b c tt r k (rest n (omega (arith, le, begun_down s.left s s1 k.es k.is))))

levels_stopped : {A : Type 0} (F G : ℕ → Part A) → ((s : State) → F 0 s ≡ Stopped []) → ((n : ℕ) (s : State) → F (suc n) s ≡ go_on (begin s) (λ _. G n))
    → (d : ℕ) (s s1 : State) (a b : Seen) (h : Halt) (r : Result A Halt) → s.left ≤ d → r ≡ Err h → Follows (begin s) s a (Err h) s1 b → Follows (F d s) s a r s1 b
levels_stopped {A} F G none more zero s s1 a b h r le e k =
    let stopped : Follows {A = A} (Stopped []) s a (Err h) s1 b = follows_err (Stopped []) (λ _. G 0) s s1 a b h (subst (λ got. Follows {A = Unit {0}} got s a (Err h) s1 b) (none_left s.left s le) k) in
    subst (λ x. Follows (F 0 s) s a x s1 b) (sym e) (subst (λ got. Follows got s a (Err h) s1 b) (sym (none s)) stopped)
levels_stopped F G none more (suc n) s s1 a b h r le e k =
    subst (λ x. Follows (F (suc n) s) s a x s1 b) (sym e) (subst (λ got. Follows got s a (Err h) s1 b) (sym (more n s)) (follows_err (begin s) (λ _. G n) s s1 a b h k))

pub expr_begun : (p : Program) (e : Expr) (d : ℕ) (s s1 s2 : State) (a b c : Seen) (r : Result ℕ Halt) → s.left ≤ d → Follows (begin s) s a (Ok tt) s1 b
    → ((n : ℕ) → s1.left ≤ n → Follows (expr_by p (to_depth p n) e.ty (out-ExprKind e.kind) s1) s1 b r s2 c) → Follows ((to_depth p d).expr e s) s a r s2 c
unfolding to_depth
expr_begun p e = levels_begun (λ d. (to_depth p d).expr e) (λ d. expr_by p (to_depth p d) e.ty (out-ExprKind e.kind)) (λ s. refl) (λ n s. refl)

pub expr_stopped : (p : Program) (e : Expr) (d : ℕ) (s s1 : State) (a b : Seen) (h : Halt) (r : Result ℕ Halt) → s.left ≤ d → r ≡ Err h → Follows (begin s) s a (Err h) s1 b
    → Follows ((to_depth p d).expr e s) s a r s1 b
unfolding to_depth
expr_stopped p e = levels_stopped (λ d. (to_depth p d).expr e) (λ d. expr_by p (to_depth p d) e.ty (out-ExprKind e.kind)) (λ s. refl) (λ n s. refl)

pub stmt_begun : (p : Program) (e : Stmt) (d : ℕ) (s s1 s2 : State) (a b c : Seen) (r : Result Leaving Halt) → s.left ≤ d → Follows (begin s) s a (Ok tt) s1 b
    → ((n : ℕ) → s1.left ≤ n → Follows (stmt_by p (to_depth p n) e (out-StmtKind e.kind) s1) s1 b r s2 c) → Follows ((to_depth p d).stmt e s) s a r s2 c
unfolding to_depth
stmt_begun p e = levels_begun (λ d. (to_depth p d).stmt e) (λ d. stmt_by p (to_depth p d) e (out-StmtKind e.kind)) (λ s. refl) (λ n s. refl)

pub stmt_stopped : (p : Program) (e : Stmt) (d : ℕ) (s s1 : State) (a b : Seen) (h : Halt) (r : Result Leaving Halt) → s.left ≤ d → r ≡ Err h → Follows (begin s) s a (Err h) s1 b
    → Follows ((to_depth p d).stmt e s) s a r s1 b
unfolding to_depth
stmt_stopped p e = levels_stopped (λ d. (to_depth p d).stmt e) (λ d. stmt_by p (to_depth p d) e (out-StmtKind e.kind)) (λ s. refl) (λ n s. refl)

turns_of : Program → Stmt → ℕ → Part Leaving
turns_of p e d s = go_on (turn_by p (to_depth p d) (out-StmtKind e.kind) s) (next_turn ((to_depth p d).turns e))

pub turns_stopped : (p : Program) (e : Stmt) (d : ℕ) (s s1 : State) (a b : Seen) (h : Halt) (r : Result Leaving Halt) → s.left ≤ d → r ≡ Err h → Follows (begin s) s a (Err h) s1 b
    → Follows ((to_depth p d).turns e s) s a r s1 b
unfolding to_depth turns_of
turns_stopped p e = levels_stopped (λ d. (to_depth p d).turns e) (turns_of p e) (λ s. refl) (λ n s. refl)

-- a turn that doesn't answer
pub turns_fail : (p : Program) (e : Stmt) (d : ℕ) (s s1 s2 : State) (a b c : Seen) (h : Halt) (r : Result Leaving Halt) → s.left ≤ d → r ≡ Err h → Follows (begin s) s a (Ok tt) s1 b
    → ((n : ℕ) → s1.left ≤ n → Follows (turn_by p (to_depth p n) (out-StmtKind e.kind) s1) s1 b (Err h) s2 c) → Follows ((to_depth p d).turns e s) s a r s2 c
unfolding to_depth turns_of
turns_fail p e d s s1 s2 a b c h r le q k rest =
    levels_begun (λ d. (to_depth p d).turns e) (turns_of p e) (λ s. refl) (λ n s. refl) d s s1 s2 a b c r le k
    (λ n l. rw q (follows_err (turn_by p (to_depth p n) (out-StmtKind e.kind) s1) (next_turn ((to_depth p n).turns e)) s1 s2 b c h (rest n l)))

-- a turn that leaves the loop
pub turns_left : (p : Program) (e : Stmt) (d : ℕ) (s s1 s2 : State) (a b c : Seen) (o : Option Leaving) (l : Leaving) → s.left ≤ d → o ≡ Some l → Follows (begin s) s a (Ok tt) s1 b
    → ((n : ℕ) → s1.left ≤ n → Follows (turn_by p (to_depth p n) (out-StmtKind e.kind) s1) s1 b (Ok o) s2 c) → Follows ((to_depth p d).turns e s) s a (Ok l) s2 c
unfolding to_depth turns_of
turns_left p e d s s1 s2 a b c o l le q k rest =
    levels_begun (λ d. (to_depth p d).turns e) (turns_of p e) (λ s. refl) (λ n s. refl) d s s1 s2 a b c (Ok l) le k
    (λ n le1. follows_ok (turn_by p (to_depth p n) (out-StmtKind e.kind) s1) (next_turn ((to_depth p n).turns e)) s1 s2 s2 b c c (Some l) (Ok l)
    (subst (λ x. Follows (turn_by p (to_depth p n) (out-StmtKind e.kind) s1) s1 b (Ok x) s2 c) q (rest n le1)) (follows_quiet (pure l s2) s2 s2 c l refl refl))

-- a turn that another follows: the loop goes on a level deeper
pub turns_on : (p : Program) (e : Stmt) (d : ℕ) (s s1 s2 : State) (a b c : Seen) (o : Option Leaving) → s.left ≤ d → o ≡ None → Follows (begin s) s a (Ok tt) s1 b → s2.left ≤ s1.left
    → ((n : ℕ) → s1.left ≤ n → Follows (turn_by p (to_depth p n) (out-StmtKind e.kind) s1) s1 b (Ok o) s2 c)
    → (n : ℕ) × (s2.left ≤ n) × Leads ((to_depth p d).turns e s) s a ((to_depth p n).turns e s2) s2 c
unfolding to_depth turns_of
turns_on p e zero s s1 s2 a b c o le q k le2 rest = absurd (omega (arith, le, begun_down s.left s s1 k.es k.is))
turns_on p e (suc n) s s1 s2 a b c o le q k le2 rest =
    let le1 : s1.left ≤ n = omega (arith, le, begun_down s.left s s1 k.es k.is) in (
      n,
      omega (arith, le1, le2),
      λ r s3 a3 last.
          follows_ok (begin s) (λ _. turns_of p e n) s s1 s3 a b a3 tt r k
          (follows_ok (turn_by p (to_depth p n) (out-StmtKind e.kind) s1) (next_turn ((to_depth p n).turns e)) s1 s2 s3 b c a3 None r
          (subst (λ x. Follows (turn_by p (to_depth p n) (out-StmtKind e.kind) s1) s1 b (Ok x) s2 c) q (rest n le1)) last),
    )

-- a call that answers, behind which memory runs out
pub gives_up_after : {A B : Type 0} (got : Got A) (f : A → Part B) (s s1 s2 : State) (a b : Seen) (v : A) (r : Result B Halt)
    → r ≡ Err halt.Memory → Follows got s a (Ok v) s1 b → Follows (go_on got f) s a r s2 b
gives_up_after got f s s1 s2 a b v r e h = rw e (follows_ok got f s s1 s2 a b b v (Err halt.Memory) h (gives_up (f v s1) s1 s2 b))
