-- One key's reading after another.
use Rattle.std.proofs.Common.{◌≡◌, ◌∙◌, ap, sym, true, false, ℕ, List, ◌∷◌, Option, Some, None, Result, Ok, Err, IsErrAnd, subst}
use Rattle.std.specs.List.{list_any}
use Rattle.std.specs.Str.{bytes_eq}
use Rattle.toml.specs.Data.{Data, Members, member}
use Rattle.board_table.specs.Keys.{Text}
use Rattle.board_table.specs.Faults.{Fault, fault_of}
use Rattle.board_table.specs.File.{IfFault}
use Rattle.board_table.specs.Reading.{first_fault}
use Rattle.board_table.specs.Steps.{MeetsAll, first_other}
use Rattle.board_table.specs.declared.fault.BoardFault.{BoardFault}

-- the fault, unless memory ran out, is the first of the readings
pub record IsFirst (rs : List (Result ℕ Fault)) (o : Option Fault) : Type 0 where
  pub is : IfFault (λ f. first_fault rs ≡ Some f) o

-- a key that is read leaves the fault to those after it
pub next : (r : Result ℕ Fault) (n : ℕ) (rs : List (Result ℕ Fault)) (o : Option Fault) → r ≡ Ok n → IsFirst rs o → IsFirst (r ∷ rs) o
next r n rs None e h = record { is = tt }
next r n rs (Some f) e h = record { is = ap (λ (x : Result ℕ Fault). first_fault (x ∷ rs)) e ∙ h.is }

-- a key at fault is the first
pub fails : (r : Result ℕ Fault) (rs : List (Result ℕ Fault)) (o : Option Fault) → IfFault (λ f. r ≡ Err f) o → IsFirst (r ∷ rs) o
fails r rs None h = record { is = tt }
fails r rs (Some f) h = record { is = ap (λ (x : Result ℕ Fault). first_fault (x ∷ rs)) h }

-- a fault that `?` passes up
pub failed : {A : Type 0} (numbers : A → List ℕ) (r : Result A BoardFault) (rs : List (Result ℕ Fault)) (e : BoardFault)
    → IsErrAnd r (λ y. y ≡ e) → IsFirst rs (fault_of e) → MeetsAll numbers r rs
failed numbers (Ok x) rs e is h = absurd is
failed numbers (Err y) rs e is h = subst (λ (z : BoardFault). IfFault (λ f. first_fault rs ≡ Some f) (fault_of z)) (sym is) h.is

pub stops : (keys : List Text) (k : Text) (d : Data) (ms : Members) → list_any (λ w. bytes_eq w k) keys ≡ false → first_other keys (member k d ms) ≡ Some k
stops keys k d ms e = rw e

pub goes_on : (keys : List Text) (k : Text) (d : Data) (ms : Members) → list_any (λ w. bytes_eq w k) keys ≡ true → first_other keys (member k d ms) ≡ first_other keys ms
goes_on keys k d ms e = rw e
