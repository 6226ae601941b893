-- Of texts that are put one behind another, and of the whole run that they show.
use Rattle.std.proofs.Common.{◌≡◌, ◌∙◌, ◌+◌, ◌<◌, ◌≤◌, ◌++◌, ℕ, List, [], ◌∷◌, Option, Some, None, Ok, Err, refl, sym, ap, subst, append_assoc, append-nil, length, take, drop, arith, inl, inr}
use Rattle.std.specs.Prelude.{Result}
use Rattle.std.proofs.lemmas.List.{take-append-drop}
use Rattle.base_io.specs.Counts.{CountsFaults, Rose}
use Rattle.base_io.specs.Pieces.{AddsTold}
use Rattle.base_io.specs.declared.sink.SinkFault.{SinkFault}
use Rattle.board_table.specs.declared.board.Board.{Board}
use Rattle.msp430_machine.specs.declared.answer.Refill.{Refill}
use Rattle.msp430_machine.specs.State.{State}
use Rattle.msp430_machine.specs.Views.{state_of}
use Rattle.power_core.specs.Runs.{Trail, start}
use Rattle.power_core.specs.Cores.{CoreView, counts_of, no_counts}
use Rattle.supplied_run.specs.declared.end.End.{End}
use Rattle.supplied_run.specs.Lines.{last_lines, word_line, word_lines}
use Rattle.supplied_run.specs.Rows.{EndsAs, IsRunning, Reaches}
use Rattle.supplied_run.specs.Shown.{Added, FrontCounts, IsFront, Puts, Shows, text_of}
use Rattle.supplied_run.specs.declared.end.End.TheVariants as end
use Rattle.supplied_run.specs.declared.turn.Turn.{Turn}
use Rattle.supplied_run.specs.declared.turn.Turn.TheVariants.{On, Puts as PutsWord, Stops}
use Rattle.supplied_run.specs.Turns.{Stands, Then, TurnCounts, Turns, work}
use Rattle.supplied_run.proofs.Reaching.{left_over}

-- a text put together piece by piece
pub joined : (t0 t1 t2 t3 t4 t5 a h b w v n : List ℕ) → t0 ≡ [] → t1 ≡ t0 ++ a → t2 ≡ t1 ++ h → t3 ≡ t2 ++ b → t4 ≡ t3 ++ w → w ≡ v → t5 ≡ t4 ++ n → t5 ≡ a ++ h ++ b ++ v ++ n
joined t0 t1 t2 t3 t4 t5 a h b w v n e0 e1 e2 e3 e4 e5 e6 =
    let s : t1 ≡ a = e1 ∙ ap (λ (t : List ℕ). t ++ a) e0 in
    cc

pub lines_more : (ws vs : List ℕ) → word_lines (ws ++ vs) ≡ word_lines ws ++ word_lines vs
lines_more [] vs = refl
lines_more (w ∷ ws) vs = ap (λ l. word_line w ++ l) (lines_more ws vs) ∙ sym (append_assoc (word_line w) (word_lines ws) (word_lines vs))

pub added_none : (old : Option (List ℕ)) → Added old old (λ bytes. bytes ≡ [])
added_none None = tt
added_none (Some old) = ([], sym (append-nil old), refl)

-- more bytes, all of them
pub added_all : {T : Type 0} (P : List ℕ) (more : List ℕ) (whole : List ℕ) (t : T) (old mid new : Option (List ℕ)) → Added old mid (λ bytes. bytes ≡ P)
    → AddsTold {T = T} {E = SinkFault} more (Ok t) mid new → whole ≡ P ++ more → Added old new (λ bytes. bytes ≡ whole)
added_all P more whole t (Some old) (Some mid) (Some new) first second e =
    (P ++ more, second ∙ ap (λ m. m ++ more) (first.1 ∙ ap (λ l. old ++ l) first.2) ∙ append_assoc old P more, sym e)
added_all P more whole t (Some old) (Some mid) None first second e = absurd second
added_all P more whole t (Some old) None new first second e = absurd first
added_all P more whole t None (Some mid) new first second e = absurd first
added_all P more whole t None None (Some new) first second e = absurd second
added_all P more whole t None None None first second e = tt

-- more bytes, of which a front was put
pub added_front : (T : Type 0) (Q : List ℕ → Type 0) (P : List ℕ) (more : List ℕ) (fault : SinkFault) (old mid new : Option (List ℕ)) → Added old mid (λ bytes. bytes ≡ P)
    → AddsTold {T = T} {E = SinkFault} more (Err fault) mid new → ((bytes rest : List ℕ) → P ++ more ≡ bytes ++ rest → Q bytes) → Added old new Q
added_front T Q P more fault (Some old) (Some mid) (Some new) first second f =
    let n = second.0 in (
      P ++ take n more,
      second.2 ∙ ap (λ m. m ++ take n more) (first.1 ∙ ap (λ l. old ++ l) first.2) ∙ append_assoc old P (take n more),
      f (P ++ take n more) (drop n more) (ap (λ l. P ++ l) (sym (take-append-drop n more)) ∙ sym (append_assoc P (take n more) (drop n more))),
    )
added_front T Q P more fault (Some old) (Some mid) None first second f = absurd second
added_front T Q P more fault (Some old) None new first second f = absurd first
added_front T Q P more fault None (Some mid) new first second f = absurd first
added_front T Q P more fault None None (Some new) first second f = absurd second
added_front T Q P more fault None None None first second f = tt

-- ---- The run

-- the run of no event
pub stands_first : (b : Board) (input : List ℕ) (limit : ℕ) (rows : List Refill) (core : CoreView) → core.counts ≡ no_counts → Stands b input limit (state_of core.machine) rows rows [] core
stands_first b input limit rows core fresh = record {
  trail = start (state_of core.machine);
  reaches = record { events = []; taken = refl; run = refl };
  state = refl;
  words = refl;
  counts = sym fresh;
}

ends_here : (limit : ℕ) (left : List Refill) (t : Trail) (core : CoreView) (end : End) → t.state ≡ state_of core.machine → counts_of t ≡ core.counts
    → EndsAs limit (state_of core.machine) core.counts.instructions left end → EndsAs limit t.state t.instructions left end
ends_here limit left t core end at counts ends =
    subst (λ (s : State). EndsAs limit s t.instructions left end) (sym at)
    (subst (λ (n : ℕ). EndsAs limit (state_of core.machine) n left end) (sym (ap (λ c. c.instructions) counts)) ends)

text_here : (t : Trail) (put : List ℕ) (core : CoreView) (end : End) → t.put ≡ put → counts_of t ≡ core.counts → text_of t end ≡ word_lines put ++ last_lines end core.counts
text_here t put core end words counts = ap (λ (p : List ℕ). word_lines p ++ last_lines end (counts_of t)) words ∙ ap (λ c. word_lines put ++ last_lines end c) counts

-- it was told to its end
pub shows_whole : {T : Type 0} (b : Board) (input : List ℕ) (limit : ℕ) (first : State) (rows left : List Refill) (put : List ℕ) (core : CoreView) (end : End) (unit : T) (old mid new : Option (List ℕ))
    → Stands b input limit first rows left put core → EndsAs limit (state_of core.machine) core.counts.instructions left end
    → Added old mid (λ bytes. bytes ≡ word_lines put) → AddsTold {T = T} {E = SinkFault} (last_lines end core.counts) (Ok unit) mid new
    → Shows b input limit first rows left (Ok end) old new
shows_whole b input limit first rows left put core end unit old mid new at ends told last = record {
  trail = at.trail;
  reaches = at.reaches;
  left_are = left_over b input limit first rows left at.trail at.reaches;
  puts = (
    ends_here limit left at.trail core end at.state at.counts ends,
    added_all (word_lines put) (last_lines end core.counts) (text_of at.trail end) unit old mid new told last (text_here at.trail put core end at.words at.counts),
  );
}

-- the sink failed at the last two lines
pub shows_stopped : (T : Type 0) (b : Board) (input : List ℕ) (limit : ℕ) (first : State) (rows left : List Refill) (put : List ℕ) (core : CoreView) (end : End) (fault : SinkFault) (old mid new : Option (List ℕ))
    → Stands b input limit first rows left put core → EndsAs limit (state_of core.machine) core.counts.instructions left end
    → Added old mid (λ bytes. bytes ≡ word_lines put) → AddsTold {T = T} {E = SinkFault} (last_lines end core.counts) (Err fault) mid new
    → Shows b input limit first rows left (Err fault) old new
shows_stopped T b input limit first rows left put core end fault old mid new at ends told last = record {
  trail = at.trail;
  reaches = at.reaches;
  left_are = left_over b input limit first rows left at.trail at.reaches;
  puts = added_front T (IsFront limit left at.trail) (word_lines put) (last_lines end core.counts) fault old mid new told last (λ bytes rest e. record {
    text = text_of at.trail end;
    so_far = inr (end, ends_here limit left at.trail core end at.state at.counts ends, refl);
    rest = rest;
    front = text_here at.trail put core end at.words at.counts ∙ e;
  });
}

-- the sink failed at the line of a word
pub shows_cut : (T : Type 0) (b : Board) (input : List ℕ) (limit : ℕ) (first : State) (rows left : List Refill) (put words : List ℕ) (core : CoreView) (fault : SinkFault) (old mid new : Option (List ℕ))
    → Stands b input limit first rows left (put ++ words) core
    → Added old mid (λ bytes. bytes ≡ word_lines put) → AddsTold {T = T} {E = SinkFault} (word_lines words) (Err fault) mid new
    → Shows b input limit first rows left (Err fault) old new
shows_cut T b input limit first rows left put words core fault old mid new at told last = record {
  trail = at.trail;
  reaches = at.reaches;
  left_are = left_over b input limit first rows left at.trail at.reaches;
  puts = added_front T (IsFront limit left at.trail) (word_lines put) (word_lines words) fault old mid new told last (λ bytes rest e. record {
    text = word_lines at.trail.put;
    so_far = inl refl;
    rest = rest;
    front = ap word_lines at.words ∙ lines_more put words ∙ e;
  });
}

-- ---- The last event, and others

pub stands_last : (b : Board) (input : List ℕ) (limit : ℕ) (first : State) (all rows left : List Refill) (put : List ℕ) (e : End) (old new : CoreView)
    → Turns b input limit (Stops e) rows old left new → Stands b input limit first all rows put old → Stands b input limit first all left put new
stands_last b input limit first all rows left put e old new turns at =
    subst (λ (p : List ℕ). Stands b input limit first all left p new) (append-nil put) (turns.goes first all put at)

pub end_counts : (e : End) (x y : ℕ) → TurnCounts (Stops e) x y → FrontCounts (Ok e) x y
end_counts end.SupplyFault x y h = h
end_counts (end.Ended w) x y h = h
end_counts (end.Trapped n) x y h = h
end_counts end.PowerFault x y h = h
end_counts end.SupplyEnded x y h = h
end_counts end.StepLimit x y h = h
end_counts (end.MachineFault pc why) x y h = h

pub stop_least : (e : End) (x y : ℕ) → TurnCounts (Stops e) x y → x ≤ y
stop_least end.SupplyFault x y h = h.0
stop_least (end.Ended w) x y h = omega (arith, h)
stop_least (end.Trapped n) x y h = omega (arith, h)
stop_least end.PowerFault x y h = omega (arith, h)
stop_least end.SupplyEnded x y h = omega (arith, h)
stop_least end.StepLimit x y h = omega (arith, h)
stop_least (end.MachineFault pc why) x y h = omega (arith, h)

pub on_counts : (t : Turn) → ((e : End) → t ≡ Stops e → ⊥) → (x y : ℕ) → TurnCounts t x y → y ≡ x
on_counts On other x y h = h
on_counts (PutsWord w) other x y h = h
on_counts (Stops e) other x y h = absurd (other e refl)

pub on_then : (limit : ℕ) (t : Turn) (rows left : List Refill) (old new : CoreView) → ((e : End) → t ≡ Stops e → ⊥) → Then limit t rows old left new
    → IsRunning new.machine.phase × (work limit left new < work limit rows old)
on_then limit On rows left old new other h = h
on_then limit (PutsWord w) rows left old new other h = h
on_then limit (Stops e) rows left old new other h = absurd (other e refl)
