-- Of what parts of a run show, one after another.
use Rattle.std.proofs.Common.{◌≡◌, ◌+◌, List, [], ◌∷◌, ◌++◌, refl, sym, ap, arith}
use Rattle.c_tree.specs.Runs.{Event, Begun, Put, Got, Done, Trapped, Stopped, Part, behind_events, go_on}
use Rattle.c_tree.specs.Meaning.{put_words, begun, events}

pub put_words-append : (es fs : List Event) → put_words (es ++ fs) ≡ put_words es ++ put_words fs
put_words-append [] fs = refl
put_words-append (Begun ∷ es) fs = put_words-append es fs
put_words-append (Put w ∷ es) fs = ap (λ ws. w ∷ ws) (put_words-append es fs)

pub begun-append : (es fs : List Event) → begun (es ++ fs) ≡ begun es + begun fs
begun-append [] fs = omega arith
begun-append (Begun ∷ es) fs = omega (arith, begun-append es fs)
begun-append (Put w ∷ es) fs = begun-append es fs

pub events_behind : {A : Type 0} (es : List Event) (got : Got A) → events (behind_events es got) ≡ es ++ events got
events_behind es (Done fs a s) = refl
events_behind es (Trapped fs t) = refl
events_behind es (Stopped fs) = refl

-- what a part shows stands before what is shown behind it
pub events_on : {A B : Type 0} (got : Got A) (f : A → Part B) → (more : List Event) × (events (go_on got f) ≡ events got ++ more)
events_on (Done es a s) f = (events (f a s), events_behind es (f a s))
events_on (Trapped es t) f = ([], sym (append-nil-events es))
  where
    append-nil-events : (es : List Event) → es ++ [] ≡ es
    append-nil-events [] = refl
    append-nil-events (e ∷ es) = ap (λ l. e ∷ l) (append-nil-events es)
events_on (Stopped es) f = ([], sym (append-nil-events es))
  where
    append-nil-events : (es : List Event) → es ++ [] ≡ es
    append-nil-events [] = refl
    append-nil-events (e ∷ es) = ap (λ l. e ∷ l) (append-nil-events es)
