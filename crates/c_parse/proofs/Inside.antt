-- Over an expression the tally counts its binary operators, and stands behind it as many brackets deep as before.
use Rattle.std.proofs.Common.{◌≡◌, ◌≤◌, ℕ, zero, suc, List, [], ◌∷◌, ◌++◌, Option, Bool, true, false, not, ◌||◌, ◌&&◌, refl, sym, ap, ap₂, subst, ◌∙◌, ◌+◌, ◌-◌, arith}
use Rattle.c_parse.specs.declared.class.Class.{Class}
use Rattle.c_parse.specs.declared.class.Class.TheVariants.{Name, Number, Plus, Minus, Star, Divide, Shift, Relation, Equality, Ampersand, Caret, Bar, AndAnd, BarBar, Complement, Question, Colon, Comma, Open, Close, OpenIndex, CloseIndex, Char, Sign, Short, Int, Fixed}
use Rattle.c_parse.specs.declared.raw.Raw.{Raw}
use Rattle.c_parse.specs.declared.tally.Last.{Last}
use Rattle.c_parse.specs.declared.tally.Last.TheVariants.{Operand, TypeWord, Head, Other}
use Rattle.c_parse.specs.declared.tally.Tally.{Tally}
use Rattle.c_parse.specs.Grammar.{Form, subscript, subscripted, expr, choice, chosen, binary, operations, unary, operand, cast_type, primary, grouped, passed, arguments, more_arguments, type_name, after_char, after_sign, after_short, after_int, after_sign_short, after_sign_int, after_short_int, Symbol, token, sub, alternatives, OneOf, here, there, same_answer, holds_operators, marks, marks_all, one, weight, Nested, word_at, bare, ahead, Derives, leaf, node, DeriveAll, none, more, Word}
use Rattle.c_parse.specs.Tally.{added, closed, deeper, opening, closing, parting, counted, tally_of}
use Rattle.c_parse.proofs.Truth.{same_number, implies, implied, both_left, both_right, number_is}
use Rattle.c_parse.proofs.Tallies.{closing_some, parting_some}

-- At each of these words the tally has counted one more where it is a binary operator: from so many to so many.
pub data Runs : ℕ → List Bool → Tally → List Word → ℕ → Type 0 where
  done : (n : ℕ) (tally : Tally) → Runs n [] tally [] n
  step : (n : ℕ) (is_operator : Bool) (marks_are : List Bool) (tally : Tally) (word : Word) (words : List Word) (m : ℕ)
      → (counted tally word.class).operators ≡ n + one is_operator → Runs (n + one is_operator) marks_are (counted tally word.class) words m → Runs n (is_operator ∷ marks_are) tally (word ∷ words) m

abbrev pub tally_at : ℕ → ℕ → Last → Tally
tally_at brackets operators last = record { brackets = brackets; operators = operators; last = last }

abbrev pub is_operand : Last → Bool
is_operand Operand = true
is_operand _ = false

abbrev pub is_typed : Last → Bool
is_typed TypeWord = true
is_typed _ = false

abbrev pub is_head : Last → Bool
is_head Head = true
is_head _ = false

abbrev pub is_other : Last → Bool
is_other Other = true
is_other _ = false

abbrev pub same_last : Last → Last → Bool
same_last Operand last = is_operand last
same_last TypeWord last = is_typed last
same_last Head last = is_head last
same_last Other last = is_other last

same_last_self : (l : Last) → same_last l l ≡ true
same_last_self Operand = refl
same_last_self TypeWord = refl
same_last_self Head = refl
same_last_self Other = refl

abbrev pub is_some : ℕ → Bool
is_some zero = false
is_some (suc n) = true

abbrev pub less_one : ℕ → ℕ
less_one zero = zero
less_one (suc n) = n

-- Inside an expression such a token may stand here; the flag says whether it is a binary operator.
abbrev pub fits_token : Bool → Class → ℕ → Last → Bool
fits_token b Plus h l = same_answer b (is_operand l)
fits_token b Minus h l = same_answer b (is_operand l)
fits_token b Star h l = same_answer b (is_operand l)
fits_token b Divide h l = same_answer b (is_operand l)
fits_token b Shift h l = same_answer b (is_operand l)
fits_token b Relation h l = same_answer b (is_operand l)
fits_token b Equality h l = same_answer b (is_operand l)
fits_token b Ampersand h l = same_answer b (is_operand l)
fits_token b Caret h l = same_answer b (is_operand l)
fits_token b Bar h l = same_answer b (is_operand l)
fits_token b AndAnd h l = same_answer b (is_operand l)
fits_token b BarBar h l = same_answer b (is_operand l)
fits_token b Name h l = not b
fits_token b Number h l = not b
fits_token b Complement h l = not b
fits_token b Question h l = not b
fits_token b OpenIndex h l = not b
fits_token b Open h l = not b && not (is_head l)
fits_token b Close h l = not b && is_some h
fits_token b CloseIndex h l = not b && is_some h
fits_token b Colon h l = not b && is_some h
fits_token b Comma h l = not b && is_some h
fits_token b Char h l = not b
fits_token b Sign h l = not b
fits_token b Short h l = not b
fits_token b Int h l = not b
fits_token b Fixed h l = not b
fits_token b _ h l = false

abbrev pub height_after : Class → ℕ → ℕ
height_after Question h = suc h
height_after OpenIndex h = suc h
height_after Open h = suc h
height_after Close h = less_one h
height_after CloseIndex h = less_one h
height_after Colon h = less_one h
height_after _ h = h

abbrev pub last_after : Class → Last → Last
last_after Name l = Operand
last_after Number l = Operand
last_after CloseIndex l = Operand
last_after Close l = closed l
last_after Char l = TypeWord
last_after Sign l = TypeWord
last_after Short l = TypeWord
last_after Int l = TypeWord
last_after Fixed l = TypeWord
last_after _ l = Other

same_count : (b : Bool) (n : ℕ) → not b ≡ true → n ≡ n + one b
same_count true n e = cc
same_count false n e = omega arith

added_so : (b : Bool) (l : Last) (n : ℕ) → same_answer b (is_operand l) ≡ true → added l n ≡ n + one b
added_so true Operand n e = refl
added_so true TypeWord n e = cc
added_so true Head n e = cc
added_so true Other n e = cc
added_so false Operand n e = cc
added_so false TypeWord n e = omega arith
added_so false Head n e = omega arith
added_so false Other n e = omega arith

opening_so : (l : Last) (t : Tally) → not (is_head l) ≡ true → opening l t ≡ deeper t
opening_so Operand t e = refl
opening_so TypeWord t e = refl
opening_so Head t e = cc
opening_so Other t e = refl

deeper_at : (b : Bool) (k n h : ℕ) → not b ≡ true → tally_at (k + h + 1) n Other ≡ tally_at (k + suc h) (n + one b) Other
deeper_at b k n h e = let higher : k + h + 1 ≡ k + suc h = omega arith in ap₂ (λ x m. tally_at x m Other) higher (same_count b n e)

closing_at : (b : Bool) (k n h : ℕ) (l : Last) → (not b && is_some h) ≡ true → closing (k + h) l n ≡ tally_at (k + less_one h) (n + one b) l
closing_at b k n zero l e = let no : is_some zero ≡ true = both_right (not b) (is_some zero) e in cc
closing_at b k n (suc h) l e =
    let lower : k + suc h - 1 ≡ k + h = omega arith in
    closing_some (k + suc h) l n (omega arith) ∙ ap₂ (λ x m. tally_at x m l) lower (same_count b n (both_left (not b) (is_some (suc h)) e))

parting_at : (b : Bool) (k n h : ℕ) → (not b && is_some h) ≡ true → parting (k + h) n ≡ tally_at (k + h) (n + one b) Other
parting_at b k n zero e = let no : is_some zero ≡ true = both_right (not b) (is_some zero) e in cc
parting_at b k n (suc h) e = parting_some (k + suc h) n (omega arith) ∙ ap (λ m. tally_at (k + suc h) m Other) (same_count b n (both_left (not b) (is_some (suc h)) e))

-- What the tally does at a token of an expression.
pub token_counts : (b : Bool) (class : Class) (k n h : ℕ) (l : Last) → fits_token b class h l ≡ true → counted (tally_at (k + h) n l) class ≡ tally_at (k + height_after class h) (n + one b) (last_after class l)
token_counts b Plus k n h l e = ap (λ m. tally_at (k + h) m Other) (added_so b l n e)
token_counts b Minus k n h l e = ap (λ m. tally_at (k + h) m Other) (added_so b l n e)
token_counts b Star k n h l e = ap (λ m. tally_at (k + h) m Other) (added_so b l n e)
token_counts b Divide k n h l e = ap (λ m. tally_at (k + h) m Other) (added_so b l n e)
token_counts b Shift k n h l e = ap (λ m. tally_at (k + h) m Other) (added_so b l n e)
token_counts b Relation k n h l e = ap (λ m. tally_at (k + h) m Other) (added_so b l n e)
token_counts b Equality k n h l e = ap (λ m. tally_at (k + h) m Other) (added_so b l n e)
token_counts b Ampersand k n h l e = ap (λ m. tally_at (k + h) m Other) (added_so b l n e)
token_counts b Caret k n h l e = ap (λ m. tally_at (k + h) m Other) (added_so b l n e)
token_counts b Bar k n h l e = ap (λ m. tally_at (k + h) m Other) (added_so b l n e)
token_counts b AndAnd k n h l e = ap (λ m. tally_at (k + h) m Other) (added_so b l n e)
token_counts b BarBar k n h l e = ap (λ m. tally_at (k + h) m Other) (added_so b l n e)
token_counts b Name k n h l e = ap (λ m. tally_at (k + h) m Operand) (same_count b n e)
token_counts b Number k n h l e = ap (λ m. tally_at (k + h) m Operand) (same_count b n e)
token_counts b Complement k n h l e = ap (λ m. tally_at (k + h) m Other) (same_count b n e)
token_counts b Question k n h l e = deeper_at b k n h e
token_counts b OpenIndex k n h l e = deeper_at b k n h e
token_counts b Open k n h l e = opening_so l (tally_at (k + h) n l) (both_right (not b) (not (is_head l)) e) ∙ deeper_at b k n h (both_left (not b) (not (is_head l)) e)
token_counts b Close k n h l e = closing_at b k n h (closed l) e
token_counts b CloseIndex k n h l e = closing_at b k n h Operand e
token_counts b Colon k n h l e = closing_at b k n h Other e
token_counts b Comma k n h l e = parting_at b k n h e
token_counts b Char k n h l e = ap (λ m. tally_at (k + h) m TypeWord) (same_count b n e)
token_counts b Sign k n h l e = ap (λ m. tally_at (k + h) m TypeWord) (same_count b n e)
token_counts b Short k n h l e = ap (λ m. tally_at (k + h) m TypeWord) (same_count b n e)
token_counts b Int k n h l e = ap (λ m. tally_at (k + h) m TypeWord) (same_count b n e)
token_counts b Fixed k n h l e = ap (λ m. tally_at (k + h) m TypeWord) (same_count b n e)
token_counts b _ k n h l e = cc

-- the forms of which expressions are made
abbrev pub is_part : Form → Bool
is_part expr = true
is_part choice = true
is_part chosen = true
is_part binary = true
is_part operations = true
is_part unary = true
is_part operand = true
is_part cast_type = true
is_part primary = true
is_part subscript = true
is_part subscripted = true
is_part grouped = true
is_part passed = true
is_part arguments = true
is_part more_arguments = true
is_part type_name = true
is_part after_char = true
is_part after_sign = true
is_part after_short = true
is_part after_int = true
is_part after_sign_short = true
is_part after_sign_int = true
is_part after_short_int = true
is_part _ = false

-- how many brackets are open where it begins, of those that it closes or stands in
abbrev pub starts_at : Form → ℕ
starts_at chosen = 1
starts_at cast_type = 1
starts_at subscripted = 1
starts_at grouped = 1
starts_at passed = 1
starts_at arguments = 1
starts_at more_arguments = 1
starts_at _ = 0

-- and where it ends
abbrev pub ends_at : Form → ℕ
ends_at arguments = 1
ends_at more_arguments = 1
ends_at _ = 0

-- behind which tokens it stands
abbrev pub needs : Form → Last → Bool
needs choice l = is_operand l
needs operations l = is_operand l
needs subscript l = is_operand l
needs more_arguments l = is_operand l
needs after_char l = is_typed l
needs after_sign l = is_typed l
needs after_short l = is_typed l
needs after_int l = is_typed l
needs after_sign_short l = is_typed l
needs after_sign_int l = is_typed l
needs after_short_int l = is_typed l
needs _ l = is_other l

-- with which it ends
abbrev pub leaves : Form → Last → Bool
leaves arguments l = is_operand l || is_other l
leaves cast_type l = is_other l
leaves type_name l = is_typed l
leaves after_char l = is_typed l
leaves after_sign l = is_typed l
leaves after_short l = is_typed l
leaves after_int l = is_typed l
leaves after_sign_short l = is_typed l
leaves after_sign_int l = is_typed l
leaves after_short_int l = is_typed l
leaves _ l = is_operand l

abbrev pub enough : ℕ → ℕ → Bool
enough zero h = true
enough (suc s) zero = false
enough (suc s) (suc h) = enough s h

enough_is : (s h : ℕ) → enough s h ≡ true → s ≤ h
enough_is zero h e = omega arith
enough_is (suc s) zero e = cc
enough_is (suc s) (suc h) e = let le : s ≤ h = enough_is s h e in omega arith

abbrev pub fits_symbol : Bool → ℕ → Last → Symbol → Bool
fits_symbol b h l (token class) = fits_token b class h l
fits_symbol b h l (sub form) = is_part form && (enough (starts_at form) h && needs form l)

abbrev pub height_behind : Symbol → ℕ → ℕ
height_behind (token class) h = height_after class h
height_behind (sub form) h = (h - starts_at form) + ends_at form

abbrev pub leaves_behind : Symbol → Last → Last → Bool
leaves_behind (token class) l x = same_last (last_after class l) x
leaves_behind (sub form) l x = leaves form x

abbrev pub each_last : (Last → Bool) → Bool
each_last test = test Operand && (test TypeWord && (test Head && test Other))

pub last_at : (test : Last → Bool) (l : Last) → each_last test ≡ true → test l ≡ true
last_at test Operand e = both_left (test Operand) (test TypeWord && (test Head && test Other)) e
last_at test TypeWord e = both_left (test TypeWord) (test Head && test Other) (both_right (test Operand) (test TypeWord && (test Head && test Other)) e)
last_at test Head e = both_left (test Head) (test Other) (both_right (test TypeWord) (test Head && test Other) (both_right (test Operand) (test TypeWord && (test Head && test Other)) e))
last_at test Other e = both_right (test Head) (test Other) (both_right (test TypeWord) (test Head && test Other) (both_right (test Operand) (test TypeWord && (test Head && test Other)) e))

-- From here the symbols lead to such an end.
abbrev pub fits_all : Bool → ℕ → Last → List Symbol → ℕ → (Last → Bool) → Bool
fits_all b h l [] end post = same_number h end && post l
fits_all b h l (symbol ∷ symbols) end post =
    fits_symbol b h l symbol && each_last (λ x. implies (leaves_behind symbol l x) (fits_all b (height_behind symbol h) x symbols end post))

abbrev pub fits_each : Bool → ℕ → Last → List (List Symbol) → ℕ → (Last → Bool) → Bool
fits_each b h l [] end post = true
fits_each b h l (symbols ∷ others) end post = fits_all b h l symbols end post && fits_each b h l others end post

abbrev fits_form : Form → Last → Bool
fits_form form l = implies (needs form l) (fits_each (holds_operators form) (starts_at form) l (alternatives form) (ends_at form) (leaves form))

part_fitting : (form : Form) → is_part form ≡ true → each_last (fits_form form) ≡ true
part_fitting expr e = refl
part_fitting choice e = refl
part_fitting chosen e = refl
part_fitting binary e = refl
part_fitting operations e = refl
part_fitting unary e = refl
part_fitting operand e = refl
part_fitting cast_type e = refl
part_fitting primary e = refl
part_fitting subscript e = refl
part_fitting subscripted e = refl
part_fitting grouped e = refl
part_fitting passed e = refl
part_fitting arguments e = refl
part_fitting more_arguments e = refl
part_fitting type_name e = refl
part_fitting after_char e = refl
part_fitting after_sign e = refl
part_fitting after_short e = refl
part_fitting after_int e = refl
part_fitting after_sign_short e = refl
part_fitting after_sign_int e = refl
part_fitting after_short_int e = refl
part_fitting _ e = cc

fits_one : (b : Bool) (h : ℕ) (l : Last) (symbols : List Symbol) (list : List (List Symbol)) (end : ℕ) (post : Last → Bool) → OneOf symbols list → fits_each b h l list end post ≡ true → fits_all b h l symbols end post ≡ true
fits_one b h l symbols _ end post (here others) e = both_left (fits_all b h l symbols end post) (fits_each b h l others end post) e
fits_one b h l symbols _ end post (there other others one_is) e = fits_one b h l symbols others end post one_is (both_right (fits_all b h l other end post) (fits_each b h l others end post) e)

pub part_fits : (form : Form) (l : Last) (symbols : List Symbol) → is_part form ≡ true → needs form l ≡ true → OneOf symbols (alternatives form)
    → fits_all (holds_operators form) (starts_at form) l symbols (ends_at form) (leaves form) ≡ true
part_fits form l symbols part need one_is =
    fits_one (holds_operators form) (starts_at form) l symbols (alternatives form) (ends_at form) (leaves form) one_is
    (implied (needs form l) _ (last_at (fits_form form) l (part_fitting form part)) need)

pub tally_append : (t : Tally) (xs ys : List Word) → tally_of t (xs ++ ys) ≡ tally_of (tally_of t xs) ys
tally_append t [] ys = refl
tally_append t (x ∷ xs) ys = tally_append (counted t x.class) xs ys

pub bare_append : (xs ys : List Nested) → bare (xs ++ ys) ≡ bare xs ++ bare ys
bare_append [] ys = refl
bare_append (x ∷ xs) ys = ap (λ t. word_at x ∷ t) (bare_append xs ys)

runs_append : (n : ℕ) (bs : List Bool) (t : Tally) (xs : List Word) (m : ℕ) (cs : List Bool) (ys : List Word) (p : ℕ) → Runs n bs t xs m → Runs m cs (tally_of t xs) ys p → Runs n (bs ++ cs) t (xs ++ ys) p
runs_append _ _ _ _ _ cs ys p (done n t) second = second
runs_append _ _ _ _ _ cs ys p (step n b bs t word words m is first) second =
    step n b (bs ++ cs) t word (words ++ ys) p is (runs_append (n + one b) bs (counted t word.class) words m cs ys p first second)

-- What comes of the tally over words of an expression.
pub record Inside (k n h : ℕ) (l : Last) (bs : List Bool) (words : List Word) (end : ℕ) (post : Last → Bool) : Type 0 where
  pub operators : ℕ
  pub last : Last
  pub ends : tally_of (tally_at (k + h) n l) words ≡ tally_at (k + end) operators last
  pub fits : post last ≡ true
  pub runs : Runs n bs (tally_at (k + h) n l) words operators

inside_token : (b : Bool) (class : Class) (word : Nested) (k n h : ℕ) (l : Last) → word.class ≡ class → fits_token b class h l ≡ true
    → Inside k n h l (b ∷ []) (word_at word ∷ []) (height_after class h) (same_last (last_after class l))
inside_token b class word k n h l is e =
    let t : counted (tally_at (k + h) n l) word.class ≡ tally_at (k + height_after class h) (n + one b) (last_after class l) = ap (counted (tally_at (k + h) n l)) is ∙ token_counts b class k n h l e in
    record {
      operators = n + one b;
      last = last_after class l;
      ends = t;
      fits = same_last_self (last_after class l);
      runs = step n b [] (tally_at (k + h) n l) (word_at word) [] (n + one b) (ap (λ (x : Tally). x.operators) t) (done (n + one b) (counted (tally_at (k + h) n l) word.class));
    }

inside_none : (k n h : ℕ) (l : Last) (end : ℕ) (post : Last → Bool) → (same_number h end && post l) ≡ true → Inside k n h l [] [] end post
inside_none k n h l end post e =
    let same : h ≡ end = number_is h end (both_left (same_number h end) (post l) e) in
    record { operators = n; last = l; ends = ap (λ x. tally_at (k + x) n l) same; fits = both_right (same_number h end) (post l) e; runs = done n (tally_at (k + h) n l) }

inside_more : (k n h : ℕ) (l : Last) (bs cs : List Bool) (front rest words : List Nested) (middle end : ℕ) (between post : Last → Bool) → words ≡ front ++ rest → (i : Inside k n h l bs (bare front) middle between)
    → Inside k i.operators middle i.last cs (bare rest) end post → Inside k n h l (bs ++ cs) (bare words) end post
inside_more k n h l bs cs front rest words middle end between post is i j =
    let t : Tally = tally_at (k + h) n l in
    let split : bare words ≡ bare front ++ bare rest = ap bare is ∙ bare_append front rest in
    let P : Tally → Type 0 = λ x. Runs i.operators cs x (bare rest) j.operators in
    let Q : List Word → Type 0 = λ x. Runs n (bs ++ cs) t x j.operators in
    record {
      operators = j.operators;
      last = j.last;
      ends = ap (tally_of t) split ∙ tally_append t (bare front) (bare rest) ∙ ap (λ x. tally_of x (bare rest)) i.ends ∙ j.ends;
      fits = j.fits;
      runs = subst Q (sym split) (runs_append n bs t (bare front) i.operators cs (bare rest) j.operators i.runs (subst P (sym i.ends) j.runs));
    }

-- the brackets that a form closes are among those that are open
inside_lower : (k n h s e : ℕ) (l : Last) (bs : List Bool) (words : List Word) (post : Last → Bool) → s ≤ h → Inside (k + (h - s)) n s l bs words e post → Inside k n h l bs words ((h - s) + e) post
inside_lower k n h s e l bs words post le i =
    let at_start : k + (h - s) + s ≡ k + h = omega arith in
    let at_end : k + (h - s) + e ≡ k + ((h - s) + e) = omega arith in
    let P : ℕ → Type 0 = λ x. Runs n bs (tally_at x n l) words i.operators in
    record {
      operators = i.operators;
      last = i.last;
      ends = ap (λ x. tally_of (tally_at x n l) words) (sym at_start) ∙ i.ends ∙ ap (λ x. tally_at x i.operators i.last) at_end;
      fits = i.fits;
      runs = subst P at_start i.runs;
    }

mutual
  pub inside_symbol : (depth : ℕ) (symbol : Symbol) (raws : List Raw) (words : List Nested) (next : Option Class) (d : Derives depth symbol raws words next) (outer : Form) (k n h : ℕ) (l : Last)
      → fits_symbol (holds_operators outer) h l symbol ≡ true → Inside k n h l (marks outer depth symbol raws words next d) (bare words) (height_behind symbol h) (leaves_behind symbol l)
  inside_symbol _ _ _ _ _ (leaf depth class word next is lies) outer k n h l e = inside_token (holds_operators outer) class word k n h l is e
  inside_symbol _ _ _ _ _ (node depth form symbols parts raws words next one_is ok made all) outer k n h l e =
      let part : is_part form ≡ true = both_left (is_part form) (enough (starts_at form) h && needs form l) e in
      let rest : (enough (starts_at form) h && needs form l) ≡ true = both_right (is_part form) (enough (starts_at form) h && needs form l) e in
      inside_lower k n h (starts_at form) (ends_at form) l _ (bare words) (leaves form) (enough_is (starts_at form) h (both_left (enough (starts_at form) h) (needs form l) rest))
      (inside_all (depth + weight form) symbols parts words next all form (k + (h - starts_at form)) n (starts_at form) l (ends_at form) (leaves form)
      (part_fits form l symbols part (both_right (enough (starts_at form) h) (needs form l) rest) one_is))

  pub inside_all : (depth : ℕ) (symbols : List Symbol) (raws : List Raw) (words : List Nested) (next : Option Class) (d : DeriveAll depth symbols raws words next) (form : Form) (k n h : ℕ) (l : Last) (end : ℕ) (post : Last → Bool)
      → fits_all (holds_operators form) h l symbols end post ≡ true → Inside k n h l (marks_all form depth symbols raws words next d) (bare words) end post
  inside_all _ _ _ _ _ (none depth next) form k n h l end post e = inside_none k n h l end post e
  inside_all _ _ _ _ _ (more depth symbol symbols raws parts all front rest words next first others e1 e2) form k n h l end post e =
      let i : Inside k n h l (marks form depth symbol raws front (ahead rest next) first) (bare front) (height_behind symbol h) (leaves_behind symbol l) =
      inside_symbol depth symbol raws front (ahead rest next) first form k n h l
      (both_left (fits_symbol (holds_operators form) h l symbol) (each_last (λ x. implies (leaves_behind symbol l x) (fits_all (holds_operators form) (height_behind symbol h) x symbols end post))) e) in
      let on : each_last (λ x. implies (leaves_behind symbol l x) (fits_all (holds_operators form) (height_behind symbol h) x symbols end post)) ≡ true =
      both_right (fits_symbol (holds_operators form) h l symbol) _ e in
      inside_more k n h l _ _ front rest words (height_behind symbol h) end (leaves_behind symbol l) post e2 i
      (inside_all depth symbols parts rest next others form k i.operators (height_behind symbol h) i.last end post
      (implied (leaves_behind symbol l i.last) _ (last_at (λ x. implies (leaves_behind symbol l x) (fits_all (holds_operators form) (height_behind symbol h) x symbols end post)) i.last on) i.fits))
