-- The one answer of a text, and that the definition of its faults says just that.
use Rattle.std.proofs.Common.{◌≡◌, ℕ, suc, ◌+◌, ◌≤◌, ◌<◌, ◌⊎◌, inl, inr, ⊎_elim, List, [], ◌∷◌, ◌++◌, length, take, drop, Option, Some, None, refl, sym, ap, ◌∙◌, arith, subst, append-nil, take_all, add-one, get_or}
use Rattle.std.proofs.lemmas.List.{take-append-drop, length-take-le}
use Rattle.std.proofs.Math.Seq.{drop-cons, take-suc}
use Rattle.std.specs.Prelude.{is_some, nat_lt, if◌then◌else◌}
use Rattle.std.specs.Option.{option_or}
use Rattle.ti_txt.specs.Grammar.{Begins, BeginsWell, EndsEarly, Faulty, Put, Puts, PutsBadly, StopsAt, fault_of, first_fault, given, is_mapped}
use Rattle.ti_txt.specs.Spots.{step_of}
use Rattle.ti_txt.specs.declared.fault.TxtFault.{TxtFault}
use Rattle.ti_txt.specs.declared.fault.TxtFault.TheVariants.{BadByte, Overlap, PastEnd, Unmapped, NoEnd, Memory}
use Rattle.ti_txt.specs.declared.spot.Spot.{Spot}
use Rattle.ti_txt.specs.declared.spot.Spot.TheVariants.{Before, Between, Origin, Half, Whole, Ended}
use Rattle.ti_txt.proofs.Begins.{begins_from, behind_front, stands_behind}
use Rattle.ti_txt.proofs.Complete.{complete, none_some, some_same}
use Rattle.ti_txt.proofs.Lex.{Lexed, Ending, behind, lex, prefix, put_at, stands, stops}
use Rattle.ti_txt.proofs.Sound.{done_of, is_text}
use Rattle.ti_txt.proofs.Steps.{chosen}

abbrev pub end_fault : ℕ → Ending → Option TxtFault
end_fault n (stops at) = Some (BadByte at)
end_fault n (stands Ended) = None
end_fault n (stands Before) = Some (NoEnd n)
end_fault n (stands (Between next)) = Some (NoEnd n)
end_fault n (stands (Origin k a)) = Some (NoEnd n)
end_fault n (stands (Half next high)) = Some (NoEnd n)
end_fault n (stands (Whole a v)) = Some (NoEnd n)

-- the fault of a lexed text of n bytes, if it has one
abbrev pub verdict : ℕ → Lexed → Option TxtFault
verdict n l = option_or (first_fault [] l.puts) (end_fault n l.ending)

abbrev pub verdict_of : List ℕ → Option TxtFault
verdict_of text = verdict (length text) (lex 0 Before text)

-- where a reader stops within a text
pub record StopPlace (at : ℕ) (s : Spot) (text : List ℕ) (n : ℕ) : Type 0 where
  pub count : ℕ
  pub place : n ≡ at + count
  pub within : count < length text
  pub spot : Spot
  pub before : (lex at s (take count text)).ending ≡ stands spot
  pub puts : (lex at s (take count text)).puts ≡ (lex at s text).puts
  pub stopped : (lex at s (take (suc count) text)).ending ≡ stops n

abbrev stop_of : Ending → ℕ
stop_of (stops n) = n
stop_of (stands s) = 0

stood_stopped : (s : Spot) (n : ℕ) → stands s ≡ stops n → ⊥
stood_stopped s n e = cc

stop_by : (at : ℕ) (s : Spot) (b : ℕ) (text : List ℕ) (n : ℕ) (o : Option Spot) → step_of s b ≡ o → (behind at o (λ t. lex (at + 1) t text)).ending ≡ stops n
    → ((t : Spot) → (lex (at + 1) t text).ending ≡ stops n → StopPlace (at + 1) t text n) → StopPlace at s (b ∷ text) n
stop_by at s b text n None e h ih = record {
  count = 0;
  place = omega (arith, ap stop_of h);
  within = omega arith;
  spot = s;
  before = refl;
  puts = sym (ap (λ o. (behind at o (λ t. lex (at + 1) t text)).puts) e);
  stopped = ap (λ o. (behind at o (λ t. lex (at + 1) t [])).ending) e ∙ h;
}
stop_by at s b text n (Some t) e h ih = let p = ih t h in record {
  count = suc p.count;
  place = omega (arith, p.place);
  within = omega (arith, p.within);
  spot = p.spot;
  before = ap (λ o. (behind at o (λ u. lex (at + 1) u (take p.count text))).ending) e ∙ p.before;
  puts = ap (λ o. (behind at o (λ u. lex (at + 1) u (take p.count text))).puts) e ∙ (ap (λ ps. put_at at t ++ ps) p.puts ∙ sym (ap (λ o. (behind at o (λ u. lex (at + 1) u text)).puts) e));
  stopped = ap (λ o. (behind at o (λ u. lex (at + 1) u (take (suc p.count) text))).ending) e ∙ p.stopped;
}

pub stop_place : (at : ℕ) (s : Spot) (text : List ℕ) (n : ℕ) → (lex at s text).ending ≡ stops n → StopPlace at s text n
stop_place at s [] n e = absurd (stood_stopped s n e)
stop_place at s (b ∷ text) n e = stop_by at s b text n (step_of s b) refl e (λ t h. stop_place (at + 1) t text n h)

-- the faults of puts
abbrev pub IsPutFault : TxtFault → Type 0
IsPutFault (BadByte at) = ⊥
IsPutFault (NoEnd at) = ⊥
IsPutFault (PastEnd at) = Unit {0}
IsPutFault (Unmapped at) = Unit {0}
IsPutFault (Overlap at) = Unit {0}
IsPutFault Memory = ⊥

fault_is : (before : ℕ → Option ℕ) (p : Put) (f : TxtFault) → fault_of before p ≡ Some f → IsPutFault f
fault_is before p f e = ⊎_elim (λ h. subst IsPutFault (some_same (PastEnd p.at) f h.1) tt)
    (λ h. ⊎_elim (λ k. overlap (before p.address) k.1)
    (λ k. subst IsPutFault (some_same (Unmapped p.at) f k.1) tt)
    (chosen (is_mapped p.address) (if is_some (before p.address) then Some (Overlap p.at) else None) (Some (Unmapped p.at)) (Some f) h.1))
    (chosen (nat_lt 0xFFFF p.address) (Some (PastEnd p.at)) (if is_mapped p.address then (if is_some (before p.address) then Some (Overlap p.at) else None) else Some (Unmapped p.at)) (Some f) e) where
      overlap : (o : Option ℕ) → (if is_some o then Some (Overlap p.at) else None) ≡ Some f → IsPutFault f
      overlap None e = absurd (none_some f e)
      overlap (Some x) e = subst IsPutFault (some_same (Overlap p.at) f e) tt

put_or : (o rest : Option TxtFault) (f : TxtFault) → option_or o rest ≡ Some f → (o ≡ Some f) ⊎ ((o ≡ None) × (rest ≡ Some f))
put_or None rest f e = inr (refl, e)
put_or (Some g) rest f e = inl e

put_fault : (before rest : List Put) (f : TxtFault) → first_fault before rest ≡ Some f → IsPutFault f
put_fault before [] f e = absurd (none_some f e)
put_fault before (p ∷ rest) f e = ⊎_elim (fault_is (given before) p f) (λ h. put_fault (before ++ p ∷ []) rest f h.1)
    (put_or (fault_of (given before) p) (first_fault (before ++ p ∷ []) rest) f e)

puts_badly : (text : List ℕ) (f : TxtFault) (ending : Ending) → (lex 0 Before text).ending ≡ ending → first_fault [] (lex 0 Before text).puts ≡ Some f → PutsBadly text f
puts_badly text f (stands s) e h = record {
  count = length text;
  whole = (lex 0 Before text).puts;
  begins = subst (λ t. Begins t (lex 0 Before text).puts) (sym (take_all (length text) text (omega arith))) (begins_from text s e);
  first = h;
}
puts_badly text f (stops n) e h = let p = stop_place 0 Before text n e in record {
  count = p.count;
  whole = (lex 0 Before (take p.count text)).puts;
  begins = begins_from (take p.count text) p.spot p.before;
  first = ap (first_fault []) p.puts ∙ h;
}

of_puts : (text : List ℕ) (f : TxtFault) → IsPutFault f → PutsBadly text f → Faulty text f
of_puts text (BadByte at) i h = absurd i
of_puts text (NoEnd at) i h = absurd i
of_puts text (PastEnd at) i h = h
of_puts text (Unmapped at) i h = h
of_puts text (Overlap at) i h = h
of_puts text Memory i h = absurd i

-- A front behind which no reader stands begins no text.
no_front : (front : List ℕ) (n : ℕ) → (lex 0 Before front).ending ≡ stops n → (whole : List Put) → Begins front whole → ⊥
no_front front n e whole b = let p = stands_behind front whole b in stood_stopped p.0 n (sym p.1 ∙ e)

stops_at : (text : List ℕ) (n : ℕ) → (lex 0 Before text).ending ≡ stops n → first_fault [] (lex 0 Before text).puts ≡ None → StopsAt text n
stops_at text n e h = let p = stop_place 0 Before text n e in
    let same : p.count ≡ n = omega (arith, p.place) in
    let next : suc p.count ≡ n + 1 = omega (arith, p.place) in
    record {
      within = omega (arith, p.within, same);
      before = subst (λ k. BeginsWell (take k text)) same (record {
        whole = (lex 0 Before (take p.count text)).puts;
        begins = begins_from (take p.count text) p.spot p.before;
        good = ap (first_fault []) p.puts ∙ h;
      });
      stops = subst (λ k. (whole : List Put) → Begins (take k text) whole → ⊥) next (no_front (take (suc p.count) text) n p.stopped);
    }

pub ends_early : (text : List ℕ) (s : Spot) → (s ≡ Ended → ⊥) → (lex 0 Before text).ending ≡ stands s → first_fault [] (lex 0 Before text).puts ≡ None → EndsEarly text (length text)
ends_early text s open_ e h = record {
  place = refl;
  begins = record { whole = (lex 0 Before text).puts; begins = begins_from text s e; good = h };
  not_whole = λ puts written. let f : stands s ≡ stands Ended = sym e ∙ ap (λ (l : Lexed). l.ending) (complete 0 None text puts written) in open_ cc;
}

early_fault : (text : List ℕ) (f : TxtFault) → EndsEarly text (length text) → Some (NoEnd (length text)) ≡ Some f → Faulty text f
early_fault text f h e = subst (Faulty text) (some_same (NoEnd (length text)) f e) h

by_end : (text : List ℕ) (f : TxtFault) (ending : Ending) → (lex 0 Before text).ending ≡ ending → first_fault [] (lex 0 Before text).puts ≡ None → end_fault (length text) ending ≡ Some f → Faulty text f
by_end text f (stops n) e h g = subst (Faulty text) (some_same (BadByte n) f g) (stops_at text n e h)
by_end text f (stands Ended) e h g = absurd (none_some f g)
by_end text f (stands Before) e h g = early_fault text f (ends_early text Before (λ k. cc) e h) g
by_end text f (stands (Between next)) e h g = early_fault text f (ends_early text (Between next) (λ k. cc) e h) g
by_end text f (stands (Origin k a)) e h g = early_fault text f (ends_early text (Origin k a) (λ k. cc) e h) g
by_end text f (stands (Half next high)) e h g = early_fault text f (ends_early text (Half next high) (λ k. cc) e h) g
by_end text f (stands (Whole a v)) e h g = early_fault text f (ends_early text (Whole a v) (λ k. cc) e h) g

-- The fault that is found is one by the definition.
pub faulty_from : (text : List ℕ) (f : TxtFault) → verdict_of text ≡ Some f → Faulty text f
faulty_from text f e = ⊎_elim (λ h. of_puts text f (put_fault [] (lex 0 Before text).puts f h) (puts_badly text f (lex 0 Before text).ending refl h))
    (λ h. by_end text f (lex 0 Before text).ending refl h.0 h.1)
    (put_or (first_fault [] (lex 0 Before text).puts) (end_fault (length text) (lex 0 Before text).ending) f e)

first_on : (o : Option TxtFault) (r t : Option TxtFault) (f : TxtFault) → option_or o r ≡ Some f → (r ≡ Some f → t ≡ Some f) → option_or o t ≡ Some f
first_on None r t f e h = h e
first_on (Some g) r t f e h = e

first_front : (before xs ys : List Put) (f : TxtFault) → first_fault before xs ≡ Some f → first_fault before (xs ++ ys) ≡ Some f
first_front before [] ys f e = absurd (none_some f e)
first_front before (p ∷ xs) ys f e = first_on (fault_of (given before) p) (first_fault (before ++ p ∷ []) xs) (first_fault (before ++ p ∷ []) (xs ++ ys)) f e (first_front (before ++ p ∷ []) xs ys f)

-- a text behind a front
behind_take : (n : ℕ) (text : List ℕ) (s : Spot) → (lex 0 Before (take n text)).ending ≡ stands s
    → lex 0 Before text ≡ prefix (lex 0 Before (take n text)).puts (lex (0 + length (take n text)) s (drop n text))
behind_take n text s e = ap (lex 0 Before) (sym (take-append-drop n text)) ∙ behind_front (take n text) (drop n text) s e

puts_verdict : (text : List ℕ) (f : TxtFault) → PutsBadly text f → verdict_of text ≡ Some f
puts_verdict text f h =
    let p = stands_behind (take h.count text) h.whole h.begins in
    let later : List Put = (lex (0 + length (take h.count text)) p.0 (drop h.count text)).puts in
    let front : first_fault [] (lex 0 Before (take h.count text)).puts ≡ Some f = ap (first_fault []) (sym p.2) ∙ h.first in
    let all : first_fault [] (lex 0 Before text).puts ≡ Some f =
    ap (λ (l : Lexed). first_fault [] l.puts) (behind_take h.count text p.0 p.1) ∙ first_front [] (lex 0 Before (take h.count text)).puts later f front in
    ap (λ o. option_or o (end_fault (length text) (lex 0 Before text).ending)) all

stop_verdict : (text : List ℕ) (at c : ℕ) (rest : List ℕ) (s : Spot) (o : Option Spot) → StopsAt text at → drop at text ≡ c ∷ rest → take (at + 1) text ≡ take at text ++ c ∷ []
    → (lex 0 Before (take at text)).ending ≡ stands s → first_fault [] (lex 0 Before (take at text)).puts ≡ None → step_of s c ≡ o → verdict_of text ≡ Some (BadByte at)
stop_verdict text at c rest s (Some t) h front next e good leads_on =
    let n : ℕ = 0 + length (take at text) in
    let one : (lex n s (c ∷ [])).ending ≡ stands t = ap (λ o. (behind n o (λ u. lex (n + 1) u [])).ending) leads_on in
    let on : (lex 0 Before (take (at + 1) text)).ending ≡ stands t =
    ap (λ xs. (lex 0 Before xs).ending) next ∙ (ap (λ (l : Lexed). l.ending) (behind_front (take at text) (c ∷ []) s e) ∙ one) in
    absurd (h.stops (lex 0 Before (take (at + 1) text)).puts (begins_from (take (at + 1) text) t on))
stop_verdict text at c rest s None h front next e good leads_on =
    let n : ℕ = 0 + length (take at text) in
    let within : at ≤ length text = omega (arith, h.within) in
    let place : n ≡ at = omega (arith, length-take-le at text within) in
    let one : lex n s (c ∷ rest) ≡ behind n None (λ u. lex (n + 1) u rest) = ap (λ o. behind n o (λ u. lex (n + 1) u rest)) leads_on in
    let all : lex 0 Before text ≡ prefix (lex 0 Before (take at text)).puts (behind n None (λ u. lex (n + 1) u rest)) =
    behind_take at text s e ∙ (ap (λ xs. prefix (lex 0 Before (take at text)).puts (lex n s xs)) front ∙ ap (prefix (lex 0 Before (take at text)).puts) one) in
    ap (verdict (length text)) all ∙ (ap (λ ps. option_or (first_fault [] ps) (Some (BadByte n))) (append-nil (lex 0 Before (take at text)).puts)
    ∙ (ap (λ o. option_or o (Some (BadByte n))) good ∙ ap (λ k. Some (BadByte k)) place))

not_ended : (n : ℕ) (s : Spot) → (s ≡ Ended → ⊥) → end_fault n (stands s) ≡ Some (NoEnd n)
not_ended n Ended h = absurd (h refl)
not_ended n Before h = refl
not_ended n (Between next) h = refl
not_ended n (Origin k a) h = refl
not_ended n (Half next high) h = refl
not_ended n (Whole a v) h = refl

end_verdict : (text : List ℕ) (at : ℕ) → EndsEarly text at → verdict_of text ≡ Some (NoEnd at)
end_verdict text at h =
    let p = stands_behind text h.begins.whole h.begins.begins in
    let good : first_fault [] (lex 0 Before text).puts ≡ None = ap (first_fault []) (sym p.2) ∙ h.begins.good in
    let going : p.0 ≡ Ended → ⊥ = λ e. h.not_whole (lex 0 Before text).puts (is_text 0 None text (lex 0 Before text).puts (done_of (lex 0 Before text) (p.1 ∙ ap stands e))) in
    ap (λ o. option_or o (end_fault (length text) (lex 0 Before text).ending)) good
    ∙ (ap (end_fault (length text)) p.1 ∙ (not_ended (length text) p.0 going ∙ ap (λ n. Some (NoEnd n)) (sym h.place)))

stop_at_verdict : (text : List ℕ) (at : ℕ) → StopsAt text at → verdict_of text ≡ Some (BadByte at)
stop_at_verdict text at h =
    let p = stands_behind (take at text) h.before.whole h.before.begins in
    let within : at < length text = h.within in
    let next : take (at + 1) text ≡ take at text ++ get_or text at 0 ∷ [] = rw (add-one) (take-suc text at 0 within) in
    stop_verdict text at (get_or text at 0) (drop (suc at) text) p.0 (step_of p.0 (get_or text at 0)) h (drop-cons text at 0 within) next p.1 (ap (first_fault []) (sym p.2) ∙ h.before.good) refl

-- A fault by the definition is the one that is found.
pub faulty_is : (text : List ℕ) (f : TxtFault) → Faulty text f → verdict_of text ≡ Some f
faulty_is text (BadByte at) h = stop_at_verdict text at h
faulty_is text (NoEnd at) h = end_verdict text at h
faulty_is text (PastEnd at) h = puts_verdict text (PastEnd at) h
faulty_is text (Unmapped at) h = puts_verdict text (Unmapped at) h
faulty_is text (Overlap at) h = puts_verdict text (Overlap at) h
faulty_is text Memory h = absurd h

-- A good text has no fault.
pub good_is : (text : List ℕ) (puts : List Put) → Puts 0 None text puts → first_fault [] puts ≡ None → verdict_of text ≡ None
good_is text puts written good = ap (verdict (length text)) (complete 0 None text puts written) ∙ ap (λ o. option_or o None) good
