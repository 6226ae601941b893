-- Of texts that are put one behind another.
use Rattle.std.proofs.Common.{◌≡◌, ◌∙◌, ◌+◌, ◌≤◌, ◌++◌, ℕ, suc, List, [], ◌∷◌, Option, Some, None, Ok, Err, refl, sym, ap, subst, append_assoc, length, take, arith, length-append}
use Rattle.std.specs.Prelude.{Result}
use Rattle.base_io.specs.Pieces.{AddsTold}
use Rattle.base_io.specs.declared.sink.SinkFault.{SinkFault}
use Rattle.c_tree.specs.Lines.{Took}
use Rattle.c_tree.specs.Meaning.{meaning, steps}
use Rattle.c_tree.specs.Said.{Says}
use Rattle.c_tree.specs.declared.saying.SayFault.{SayFault}
use Rattle.c_tree.specs.declared.saying.SayFault.TheVariants.{Sink, Memory}
use Rattle.c_tree.specs.declared.tree.Program.{Program}
use Rattle.supplied_run.specs.Lines.{end_line}
use Rattle.supplied_run.specs.declared.end.End.{End}
use Rattle.program_texts.specs.Shown.{Shows, TookFront, end_of, shown, steps_line, words_shown}

-- ---- Two pieces

pub told_both : {T : Type 0} (a b : List ℕ) (t u : T) (old mid new : Option (List ℕ)) → AddsTold {T = T} {E = SinkFault} a (Ok t) old mid → AddsTold {T = T} {E = SinkFault} b (Ok u) mid new
    → AddsTold {T = T} {E = SinkFault} (a ++ b) (Ok u) old new
told_both a b t u (Some old) (Some mid) (Some new) h k = k ∙ ap (λ m. m ++ b) h ∙ append_assoc old a b
told_both a b t u (Some old) (Some mid) None h k = absurd k
told_both a b t u (Some old) None new h k = absurd h
told_both a b t u None (Some mid) new h k = absurd h
told_both a b t u None None (Some new) h k = absurd k
told_both a b t u None None None h k = tt

pub take_behind : (a b : List ℕ) (n : ℕ) → take (length a + n) (a ++ b) ≡ a ++ take n b
take_behind [] b n = ap (λ k. take k b) (none n)
  where
    none : (n : ℕ) → 0 + n ≡ n
    none n = omega arith
take_behind (x ∷ a) b n = ap (λ k. take k (x ∷ (a ++ b))) (more (length a) n) ∙ ap (λ l. x ∷ l) (take_behind a b n)
  where
    more : (k n : ℕ) → suc k + n ≡ suc (k + n)
    more k n = omega arith

pub told_second : {T : Type 0} (a b : List ℕ) (t : T) (f : SinkFault) (old mid new : Option (List ℕ)) → AddsTold {T = T} {E = SinkFault} a (Ok t) old mid → AddsTold {T = T} {E = SinkFault} b (Err f) mid new
    → AddsTold {T = T} {E = SinkFault} (a ++ b) (Err f) old new
told_second a b t f (Some old) (Some mid) (Some new) h (n, le, k) = (
  length a + n,
  rw length-append (omega (arith, le)),
  k ∙ ap (λ m. m ++ take n b) h ∙ append_assoc old a (take n b) ∙ ap (λ l. old ++ l) (sym (take_behind a b n)),
)
told_second a b t f (Some old) (Some mid) None h k = absurd k
told_second a b t f (Some old) None new h k = absurd h
told_second a b t f None (Some mid) new h k = absurd h
told_second a b t f None None (Some new) h k = absurd k
told_second a b t f None None None h k = tt

pub told_then : {T : Type 0} (a b : List ℕ) (t : T) (r : Result T SinkFault) (old mid new : Option (List ℕ)) → AddsTold {T = T} {E = SinkFault} a (Ok t) old mid → AddsTold b r mid new → AddsTold (a ++ b) r old new
told_then a b t (Ok u) old mid new h k = told_both a b t u old mid new h k
told_then a b t (Err f) old mid new h k = told_second a b t f old mid new h k

-- ---- The words, and the last two lines

front_told : (bytes front rest : List ℕ) (old new : Option (List ℕ)) → bytes ≡ front ++ rest → Took old new front → TookFront bytes old new
front_told bytes front rest (Some old) (Some new) e t = (
  length front,
  front_short,
  t ∙ ap (λ l. old ++ l) (sym (ap (take (length front)) e ∙ take_whole front rest)),
)
  where
    front_short : length front ≤ length bytes
    front_short = let both : length bytes ≡ length front + length rest = ap length e ∙ length-append front rest in omega (arith, both)

    take_whole : (front rest : List ℕ) → take (length front) (front ++ rest) ≡ front
    take_whole [] rest = refl
    take_whole (x ∷ front) rest = ap (λ l. x ∷ l) (take_whole front rest)
front_told bytes front rest (Some old) None e t = absurd t
front_told bytes front rest None (Some new) e t = absurd t
front_told bytes front rest None None e t = tt

module _ (p : Program) (input : List ℕ) (n : ℕ) where
  abbrev last : List ℕ
  last = end_line (end_of (meaning p input n).outcome) ++ steps_line (steps p input n)

  pub cut_short : (T : Type 0) (fault : SayFault) (old new : Option (List ℕ)) → Says {T = T} (words_shown p input n) (Err fault) old new → Shows p input n (Err fault) old new
  cut_short T Sink old new (front, rest, e, t) =
      front_told (shown p input n) front (rest ++ last) old new (ap (λ l. l ++ last) e ∙ append_assoc front rest last) t
  cut_short T Memory old new (front, rest, e, t) = front_told (words_shown p input n) front rest old new e t

  took_told : (bytes : List ℕ) (old new : Option (List ℕ)) → Took old new bytes → AddsTold {T = Unit {0}} {E = SinkFault} bytes (Ok tt) old new
  took_told bytes (Some old) (Some new) t = t
  took_told bytes (Some old) None t = t
  took_told bytes None (Some new) t = t
  took_told bytes None None t = t

  told_front : (bytes : List ℕ) (f : SinkFault) (old new : Option (List ℕ)) → AddsTold {T = Unit {0}} {E = SinkFault} bytes (Err f) old new → TookFront bytes old new
  told_front bytes f (Some old) (Some new) t = t
  told_front bytes f (Some old) None t = t
  told_front bytes f None (Some new) t = t
  told_front bytes f None None t = t

  module _ (end : End) (count : ℕ) (ends : end ≡ end_of (meaning p input n).outcome) (counts : count ≡ steps p input n) where
    last_is : end_line end ++ steps_line count ≡ last
    last_is = ap (λ e. end_line e ++ steps_line count) ends ∙ ap (λ k. end_line (end_of (meaning p input n).outcome) ++ steps_line k) counts

    pub stopped : (f : SinkFault) (old mid new : Option (List ℕ)) → Took old mid (words_shown p input n) → AddsTold {T = Unit {0}} {E = SinkFault} (end_line end ++ steps_line count) (Err f) mid new
        → Shows p input n (Err Sink) old new
    stopped f old mid new t k =
        let P : List ℕ → Type 0 = λ bytes. AddsTold {T = Unit {0}} {E = SinkFault} bytes (Err f) mid new in
        told_front (shown p input n) f old new (told_second (words_shown p input n) last (let unit : Unit {0} = tt in unit) f old mid new (took_told (words_shown p input n) old mid t) (subst P last_is k))
