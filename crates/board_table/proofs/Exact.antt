-- A file has one board or one fault.
use Rattle.std.specs.Prelude.{◌⊎◌, ◌↔◌}
use Rattle.std.proofs.Common.{◌≡◌, ◌∙◌, inl, inr, ap, refl, sym, subst, ℕ, List, Option, Some, None, Result, Ok, Err, MatchResult}
use Rattle.toml.specs.Data.{Members}
use Rattle.board_table.specs.Faults.{Fault, not_toml, missing, out_of_range, extra, fault_of}
use Rattle.board_table.specs.File.{IfFault, IsBoardIn, IsBoardOf, IsDocument, IsFault, IsFaultIn, IsNotToml, IsRefused, Refuses, UnlessMemory}
use Rattle.board_table.specs.Keys.{Text}
use Rattle.board_table.specs.Others.{IsOtherPath}
use Rattle.board_table.specs.Reading.{first_fault, numbers_of, readings}
use Rattle.board_table.specs.declared.board.Board.{Board}
use Rattle.board_table.specs.declared.fault.BoardFault.{BoardFault}
use Rattle.board_table.proofs.Order.{least_same}
use Rattle.board_table.proofs.Readings.{none_at_fault}
use Rattle.board_table.proofs.SameBoard.{board_same, numbers_same}

some_same : {A : Type 0} (x y : A) → Some x ≡ Some y → x ≡ y
some_same x y e = cc

none_some : (A : Type 0) (x : A) → (let none : Option A = None in none ≡ Some x) → ⊥
none_some A x e = cc

document_same : (bytes : List ℕ) (ms ns : Members) → IsDocument bytes ms → IsDocument bytes ns → ms ≡ ns
document_same bytes ms ns d e = some_same ms ns (sym d.parsed ∙ e.parsed)

no_document : (bytes : List ℕ) (ms : Members) → IsNotToml bytes → IsDocument bytes ms → ⊥
no_document bytes ms (inl h) d = h d.text
no_document bytes ms (inr h) d = none_some Members ms (sym h ∙ d.parsed)

-- ---- in one document

board_in : (ms : Members) (b c : Board) → IsBoardIn ms b → IsBoardIn ms c → b ≡ c
board_in ms b c h k = board_same b c (numbers_same (numbers_of b) (numbers_of c) (sym h.numbers ∙ k.numbers))

no_fault : (ms : Members) (b : Board) → IsBoardIn ms b → first_fault (readings ms) ≡ None
no_fault ms b h = none_at_fault (numbers_of b) (readings ms) h.numbers

not_both : (ms : Members) (b : Board) (f : Fault) → IsBoardIn ms b → IsFaultIn ms f → ⊥
not_both ms b not_toml h k = k
not_both ms b (missing key) h k = none_some Fault (missing key) (sym (no_fault ms b h) ∙ k)
not_both ms b (out_of_range key) h k = none_some Fault (out_of_range key) (sym (no_fault ms b h) ∙ k)
not_both ms b (extra key) h (clean, (other, least)) = h.others key other

fault_in : (ms : Members) (f g : Fault) → IsFaultIn ms f → IsFaultIn ms g → f ≡ g
fault_in ms not_toml g h k = absurd h
fault_in ms (missing s) not_toml h k = absurd k
fault_in ms (missing s) (missing t) h k = some_same (missing s) (missing t) (sym h ∙ k)
fault_in ms (missing s) (out_of_range t) h k = some_same (missing s) (out_of_range t) (sym h ∙ k)
fault_in ms (missing s) (extra t) h (clean, least) = absurd (none_some Fault (missing s) (sym clean ∙ h))
fault_in ms (out_of_range s) not_toml h k = absurd k
fault_in ms (out_of_range s) (missing t) h k = some_same (out_of_range s) (missing t) (sym h ∙ k)
fault_in ms (out_of_range s) (out_of_range t) h k = some_same (out_of_range s) (out_of_range t) (sym h ∙ k)
fault_in ms (out_of_range s) (extra t) h (clean, least) = absurd (none_some Fault (out_of_range s) (sym clean ∙ h))
fault_in ms (extra s) not_toml h k = absurd k
fault_in ms (extra s) (missing t) (clean, least) k = absurd (none_some Fault (missing t) (sym clean ∙ k))
fault_in ms (extra s) (out_of_range t) (clean, least) k = absurd (none_some Fault (out_of_range t) (sym clean ∙ k))
fault_in ms (extra s) (extra t) (clean, h) (also, k) = ap extra (least_same (IsOtherPath ms) s t h k)

-- ---- of the bytes

-- the bytes are no document, or one in which the fault is
refused_in : (bytes : List ℕ) (f : Fault) → IsRefused bytes f → ((f ≡ not_toml) × IsNotToml bytes) ⊎ ((ms : Members) × IsDocument bytes ms × IsFaultIn ms f)
refused_in bytes not_toml h = inl (refl, h)
refused_in bytes (missing key) h = inr h
refused_in bytes (out_of_range key) h = inr h
refused_in bytes (extra key) h = inr h

-- the bytes have at most one board
pub one_board : (bytes : List ℕ) (b c : Board) → IsBoardOf bytes b → IsBoardOf bytes c → b ≡ c
one_board bytes b c (ms, d, h) (ns, e, k) = board_in ms b c h (subst (λ (z : Members). IsBoardIn z c) (document_same bytes ns ms e d) k)

-- no bytes have a board and a fault
pub board_or_fault : (bytes : List ℕ) (b : Board) (f : Fault) → IsBoardOf bytes b → IsRefused bytes f → ⊥
board_or_fault bytes b f (ms, d, h) k = elim (refused_in bytes f k) [
  | inl (is, none) ↦ no_document bytes ms none d
  | inr (ns, e, at) ↦ not_both ms b f h (subst (λ (z : Members). IsFaultIn z f) (document_same bytes ns ms e d) at)
]

-- the bytes have at most one fault
pub one_fault : (bytes : List ℕ) (f g : Fault) → IsRefused bytes f → IsRefused bytes g → f ≡ g
one_fault bytes f g h k = elim (refused_in bytes f h) [
  | inl (f_is, none) ↦ elim (refused_in bytes g k) [
    | inl (g_is, also) ↦ f_is ∙ sym g_is
    | inr (ms, d, at) ↦ absurd (no_document bytes ms none d)
  ]
  | inr (ms, d, at) ↦ elim (refused_in bytes g k) [
    | inl (g_is, none) ↦ absurd (no_document bytes ms none d)
    | inr (ns, e, there) ↦ fault_in ms f g at (subst (λ (z : Members). IsFaultIn z g) (document_same bytes ns ms e d) there)
  ]
]

-- ---- what an answer says, both ways

abbrev Answer : Type 0
Answer = Result Board BoardFault

abbrev err : BoardFault → Answer
err e = Err e

abbrev ok : Board → Answer
ok b = Ok b

ok_same : (a b : Board) → ok a ≡ ok b → a ≡ b
ok_same a b e = cc

no_board : (bytes : List ℕ) (e : BoardFault) (o : Option Fault) → IfFault (IsRefused bytes) o
    → IfFault (λ _. (b : Board) → (err e ≡ Ok b) ↔ IsBoardOf bytes b) o
no_board bytes e None h = tt
no_board bytes e (Some f) h = λ b. (λ is. cc, λ k. absurd (board_or_fault bytes b f k h))

pub board_exactly : (bytes : List ℕ) (r : Answer) → MatchResult r (IsBoardOf bytes) (Refuses bytes) → UnlessMemory r ((b : Board) → (r ≡ Ok b) ↔ IsBoardOf bytes b)
board_exactly bytes (Ok a) h = λ b. (λ is. subst (IsBoardOf bytes) (ok_same a b is) h, λ k. ap ok (one_board bytes a b h k))
board_exactly bytes (Err e) h = no_board bytes e (fault_of e) h

this_fault : (bytes : List ℕ) (e : BoardFault) (F : Text → Fault) (o : Option Fault) → fault_of e ≡ o → IfFault (IsRefused bytes) o
    → IfFault (λ _. (key : Text) → (fault_of e ≡ Some (F key)) ↔ IsRefused bytes (F key)) o
this_fault bytes e F None is h = tt
this_fault bytes e F (Some f) is h = λ key. (
  λ named. subst (IsRefused bytes) (some_same f (F key) (sym is ∙ named)) h,
  λ k. is ∙ ap (λ (x : Fault). Some x) (one_fault bytes f (F key) h k),
)

pub fault_exactly : (bytes : List ℕ) (F : Text → Fault) (r : Answer) → MatchResult r (IsBoardOf bytes) (Refuses bytes)
    → UnlessMemory r ((key : Text) → IsFault r (F key) ↔ IsRefused bytes (F key))
fault_exactly bytes F (Ok a) h = λ key. (λ never. absurd never, λ k. absurd (board_or_fault bytes a (F key) h k))
fault_exactly bytes F (Err e) h = this_fault bytes e F (fault_of e) refl h
