-- From the lemmas on templates to paths, to runs that come behind them, and to what is shown of all runs.
use Rattle.std.proofs.Common.{◌≡◌, ◌∙◌, ◌⊎◌, ℕ, suc, ◌+◌, ◌≤◌, Bool, true, false, Option, Some, None, List, [], ◌∷◌, ◌++◌, length, refl, sym, ap, subst, arith, inl, inr}
use Rattle.board_table.specs.declared.board.Board.{Board}
use Rattle.msp430_isa.specs.declared.instr.Instr.{Instr}
use Rattle.msp430_machine.specs.declared.addresses.Region.{Region}
use Rattle.msp430_machine.specs.State.{State}
use Rattle.msp430_machine.specs.Memory.{written}
use Rattle.msp430_machine.specs.Cost.{cost}
use Rattle.msp430_machine.specs.Execution.{put_by}
use Rattle.msp430_machine.specs.Steps.{Does, next, begun}
use Rattle.msp430_machine.proofs.Memories.{IsIn}
use Rattle.msp430_machine.proofs.Writes.{Writes, written_leaves}
use Rattle.power_core.specs.Runs.{Event, Go, Trail, Run}
use Rattle.power_core.proofs.Covers.{Covers, ran, extended, gone_ran}
use Rattle.power_core.proofs.Points.{Setting}
use Rattle.power_core.proofs.Spending.{done_charge}
use Rattle.flow_graph.specs.declared.graph.Op.{Op}
use Rattle.op_cost.specs.Templates.{Homes, weight_of, code_of, template}
use Rattle.emit_templates.specs.Effects.{Effect}
use Rattle.emit_templates.specs.Placed.{Ready}
use Rattle.emit_templates.specs.Layer.{Now, Stand, words_of_code, effect_in, Turned, after, put_after, Path, Arrived, Through, DoesOperation, goes, with_put, RunsOperation}
use Rattle.emit_templates.proofs.Steps.{Steps}
use Rattle.emit_templates.proofs.Whole.{left, Continues, operation_goes}
use Rattle.emit_templates.proofs.Running.{Stands, Shown, Between, steps}

-- ---- Paths

head_or : List ℕ → ℕ
head_or [] = 0
head_or (x ∷ xs) = x

firsts : {n k : ℕ} {ns ks : List ℕ} → n ∷ ns ≡ k ∷ ks → n ≡ k
unfolding head_or
firsts e = ap head_or e

put_is : (o o' : Option ℕ) → extended [] o ≡ with_put [] o' → o ≡ o'
put_is None None e = refl
put_is None (Some w) e = absurd (let l = ap length e in omega (arith, l))
put_is (Some v) None e = absurd (let l = ap length e in omega (arith, l))
put_is (Some v) (Some w) e = ap (λ x. Some x) (firsts e)

none_put : (o : Option ℕ) → extended [] o ≡ [] → o ≡ None
none_put o e = put_is o None e

-- a path from s, and one last instruction, within the need
record Leading (b : Board) (input : List ℕ) (s0 : State) (puts : Option ℕ) (Behind : State → Type 0) (need : ℕ) (s : State) : Type 0 where
  mid : State
  taken : ℕ
  word : ℕ
  spent : ℕ
  last : Instr
  path : Path b input s0 mid spent s
  now : Now s0 taken word mid
  does : next mid ≡ Does last
  put : put_after b input last mid ≡ puts
  within : spent + cost b mid last ≤ need
  behind : Behind (after b input last mid)

module _ (b : Board) (input : List ℕ) (s0 : State) (puts : Option ℕ) (Behind : State → Type 0) where
  -- led on from here; or behind the last instruction
  abbrev Leads : Bool → ℕ → State → List ℕ → Type 0
  Leads f need s p = ((p ≡ []) × Leading b input s0 puts Behind need s) ⊎ ((f ≡ true) × (p ≡ with_put [] puts) × Behind s)

  leading_less : (need need' : ℕ) (s : State) → need ≤ need' → Leading b input s0 puts Behind need s → Leading b input s0 puts Behind need' s
  leading_less need need' s le l = record {
    mid = l.mid;
    taken = l.taken;
    word = l.word;
    spent = l.spent;
    last = l.last;
    path = l.path;
    now = l.now;
    does = l.does;
    put = l.put;
    within = (let c = l.within in omega (arith, c, le));
    behind = l.behind;
  }

  lead_steps : Steps b input s0 [] Leads
  lead_steps = record {
    step = λ f need taken k i s now does behind.
        elim (behind) [
          | inl on ↦ inl (
            refl,
            (let l = on.1 in record {
              mid = l.mid;
              taken = l.taken;
              word = l.word;
              spent = cost b s i + l.spent;
              last = l.last;
              path = Through taken k l.spent i s now does (none_put (put_after b input i s) on.0) l.path;
              now = l.now;
              does = l.does;
              put = l.put;
              within = (let c = l.within in omega (arith, c));
              behind = l.behind;
            }),
          )
          | inr end ↦ inl (
            refl,
            record {
              mid = s;
              taken = taken;
              word = k;
              spent = 0;
              last = i;
              path = Arrived;
              now = now;
              does = does;
              put = put_is (put_after b input i s) puts end.1;
              within = omega arith;
              behind = end.2;
            },
          )
        ];
    less = λ f need need' s p le w. elim (w) [ inl on ↦ inl (on.0, leading_less need need' s le on.1) | inr end ↦ inr end ];
  }

  led : (need : ℕ) (s : State) → Leads false need s [] → Leading b input s0 puts Behind need s
  led need s w = elim (w) [ inl on ↦ on.1 | inr end ↦ let no : false ≡ true = end.0 in cc ]

pub operation_performs : (homes : Homes) (target : ℕ) (op : Op) → DoesOperation (code_of (template homes target op)) homes target op
operation_performs homes target op b input k kt rest s ready stands now =
    let e : Effect = effect_in input homes s op in
    let B : State → Type 0 = λ t. Turned e homes s (k + words_of_code (code_of (template homes target op))) kt t in
    let l = led b input s e.puts B (weight_of b (template homes target op) + 0) s
    (operation_goes b input s [] (Leads b input s e.puts B) (lead_steps b input s e.puts B) homes target op 0 k kt rest s ready stands now (λ t turned. inr (refl, refl, turned))) in
    record {
      mid = l.mid;
      taken = l.taken;
      word = l.word;
      spent = l.spent;
      last = l.last;
      path = l.path;
      now = l.now;
      does = l.does;
      put = l.put;
      within = (let c = l.within in omega (arith, c));
      behind = l.behind;
    }

-- ---- Memory behind the operation

-- behind a write the memory is the old one with this word, and every other word is as it was
pub now_writes : (s : State) (a v taken k : ℕ) (t : State) (g : Region) → IsIn a g → Now (written false s a v) taken k t → Writes s a v t
now_writes s a v taken k t g at now = record { sram = now.has_sram; fram = now.has_fram; code = now.has_code ∙ (written_leaves false s a v g at).has_code }

-- ---- Runs

-- one instruction at least, where none is done yet
abbrev count_of : Bool → ℕ → ℕ
count_of true n = n
count_of false n = suc n

record Gets (b : Board) (input : List ℕ) (t : Trail) (most : ℕ) (Behind : State → List ℕ → Type 0) (f : Bool) : Type 0 where
  more : ℕ
  end : Trail
  run : Run b input t (goes (count_of f more)) end
  uncut : end.cuts ≡ t.cuts
  paid : end.stretch ≤ t.stretch + most
  behind : Behind end.state end.put

abbrev Reached : (b : Board) (input : List ℕ) (Behind : State → List ℕ → Type 0) → Bool → ℕ → State → List ℕ → Type 0
Reached b input Behind f need s put = (t : Trail) → t.state ≡ s → t.put ≡ put → need ≤ t.state.charge → Gets b input t need Behind f

one_go : (b : Board) (input : List ℕ) (t u end : Trail) (f : Bool) (n : ℕ) → Run b input t (Go ∷ goes n) end → (m : ℕ) × Run b input t (goes (count_of f m)) end
one_go b input t u end true n run = (suc n, run)
one_go b input t u end false n run = (n, run)

module _ (b : Board) (input : List ℕ) (s0 : State) (p0 : List ℕ) (Behind : State → List ℕ → Type 0) where
  step_at : (f : Bool) (need taken k : ℕ) (i : Instr) (t : Trail) → Now s0 taken k t.state → next t.state ≡ Does i
      → Reached b input Behind true need (after b input i t.state) (extended t.put (put_by input i (begun (cost b t.state i) i t.state)))
      → cost b t.state i + need ≤ t.state.charge → Gets b input t (cost b t.state i + need) Behind f
  step_at f need taken k i t now does on enough =
      let c : ℕ = cost b t.state i in
      let u : Trail = ran b input i t in
      let g = on u refl refl (omega (arith, enough, done_charge input i (begun c i t.state))) in
      let r = one_go b input t u g.end f g.more (u, (now.awake, sym (gone_ran b input t i does (omega (arith, enough)))), g.run) in
      record { more = r.0; end = g.end; run = r.1; uncut = g.uncut; paid = omega (arith, g.paid); behind = g.behind }

  reach_steps : Steps b input s0 p0 (Reached b input Behind)
  reach_steps = record {
    step = λ f need taken k i s now does on t same put enough.
        (let e = step_at f need taken k i t (subst (λ x. Now s0 taken k x) (sym same) now) (subst (λ x. next x ≡ Does i) (sym same) does)
        (subst (λ p. Reached b input Behind true need (after b input i t.state) (extended p (put_by input i (begun (cost b t.state i) i t.state)))) (sym put)
        (subst (λ x. Reached b input Behind true need (after b input i x) (extended p0 (put_by input i (begun (cost b x i) i x)))) (sym same) on))
        (omega (arith, enough, ap (λ x. cost b x i) same)) in
        record { more = e.more; end = e.end; run = e.run; uncut = e.uncut; paid = omega (arith, e.paid, ap (λ x. cost b x i) same); behind = e.behind });
    less = λ f need need' s p le on t same put enough.
        (let e = on t same put (omega (arith, enough, le)) in record { more = e.more; end = e.end; run = e.run; uncut = e.uncut; paid = omega (arith, e.paid, le); behind = e.behind });
  }

stays : (b : Board) (input : List ℕ) (t : Trail) (most : ℕ) (Behind : State → List ℕ → Type 0) → Behind t.state t.put → Gets b input t most Behind true
stays b input t most Behind h = record { more = 0; end = t; run = refl; uncut = refl; paid = omega arith; behind = h }

pub operation_runs : (homes : Homes) (target : ℕ) (op : Op) → RunsOperation (code_of (template homes target op)) homes target op
operation_runs homes target op b input k kt rest t ready stands now enough =
    let e : Effect = effect_in input homes t.state op in
    let k1 : ℕ = k + words_of_code (code_of (template homes target op)) in
    let B : State → List ℕ → Type 0 = λ s p. (p ≡ with_put t.put e.puts) × Turned e homes t.state k1 kt s in
    let on : Continues b input t.state t.put (Reached b input B) (reach_steps b input t.state t.put B) homes 0 k1 kt e =
    λ s turned u same put charge. stays b input u (left e.turn 0) B (put, subst (λ x. Turned e homes t.state k1 kt x) (sym same) turned) in
    let g = operation_goes b input t.state t.put (Reached b input B) (reach_steps b input t.state t.put B) homes target op 0 k kt rest t.state ready stands now on t refl refl (omega (arith, enough)) in
    record { more = g.more; end = g.end; run = g.run; uncut = g.uncut; paid = omega (arith, g.paid); put = g.behind.0; behind = g.behind.1 }

-- ---- All runs: paid and cut

-- Every run that stands at the template with enough to spend is covered, where every run is that stands behind it, having done the operation, with one
-- instruction executed at least, and where each moment between and each cut there is.
pub operation_covers : (n : ℕ) (g : Setting) (P : List Event → Trail → Type 0) (wakes before : ℕ) (s : State) (p : List ℕ) (between : Between n g P wakes before s p)
    (homes : Homes) (target : ℕ) (op : Op) (need k kt : ℕ) (rest : List Instr) → Ready op.kind homes s target kt op → Stand s.code k (code_of (template homes target op) ++ rest) → Now s s.taken k s
    → Continues g.board g.input s p (Shown n g P wakes before) (steps n g P wakes before s p between) homes need (k + words_of_code (code_of (template homes target op))) kt (effect_in g.input homes s op)
    → (past : List Event) (t : Trail) → Stands g wakes before (weight_of g.board (template homes target op) + need) s p past t → Covers n g.board g.input P past t
operation_covers n g P wakes before s p between homes target op need k kt rest ready stands now on =
    operation_goes g.board g.input s p (Shown n g P wakes before) (steps n g P wakes before s p between) homes target op need k kt rest s ready stands now on
