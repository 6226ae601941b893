-- The readings of a whole document, from those of its parts.
use Rattle.std.specs.Prelude.{map, ⊤}
use Rattle.std.proofs.Common.{◌≡◌, ◌∙◌, ap, refl, sym, subst, codes, ℕ, List, [], ◌∷◌, ◌++◌, Option, Some, None, Result, Ok, Err, IsErrAnd, MatchResult}
use Rattle.toml.specs.Data.{Data, Members, get_member, as_table}
use Rattle.board_table.specs.Keys.{Key, at_top, in_table, Text, board_keys}
use Rattle.board_table.specs.Faults.{Fault, not_toml, missing, out_of_range, extra, fault_of}
use Rattle.board_table.specs.File.{IfFault, IsBoardIn, IsFaultIn}
use Rattle.board_table.specs.Reading.{cost_at, cost_in, first_fault, number_at, number_in, ok_or_out, reading, readings}
use Rattle.board_table.specs.Steps.{RefusesIn, access_readings, core_readings}
use Rattle.board_table.specs.declared.board.Board.{Board}
use Rattle.board_table.specs.declared.fault.BoardFault.{BoardFault}
use Rattle.board_table.proofs.Chain.{IsFirst, fails, next}

-- the readings of a document's parts
abbrev pub budget_at : Members → Result ℕ Fault
budget_at ms = number_at 1 1000000000 (codes "budget") (get_member (codes "budget") ms)

abbrev pub core_at : Members → List (Result ℕ Fault)
core_at ms = core_readings (get_member (codes "core") ms)

abbrev pub access_at : Members → List (Result ℕ Fault)
access_at ms = access_readings (get_member (codes "access") ms)

-- ---- all keys are read

pub all_read : (ms : Members) (n : ℕ) (core access : List ℕ) → budget_at ms ≡ Ok n → core_at ms ≡ map Ok core → access_at ms ≡ map Ok access
    → readings ms ≡ Ok n ∷ (map Ok core ++ map Ok access)
all_read ms n core access budget_ok core_ok access_ok =
    ap (λ (r : Result ℕ Fault). r ∷ (core_at ms ++ access_at ms)) budget_ok ∙ ap (λ (xs : List (Result ℕ Fault)). Ok n ∷ (xs ++ access_at ms)) core_ok
    ∙ ap (λ (xs : List (Result ℕ Fault)). Ok n ∷ (map Ok core ++ xs)) access_ok

-- no key is at fault
pub none_at_fault : (ns : List ℕ) (rs : List (Result ℕ Fault)) → rs ≡ map Ok ns → first_fault rs ≡ None
none_at_fault ns rs e = ap first_fault e ∙ clean ns
  where
    clean : (ns : List ℕ) → first_fault (map Ok ns) ≡ None
    clean [] = refl
    clean (n ∷ ns) = clean ns

-- ---- a key is at fault

after_numbers : (ns : List ℕ) (ss : List (Result ℕ Fault)) (o : Option Fault) → IsFirst ss o → IsFirst (map Ok ns ++ ss) o
after_numbers [] ss o h = h
after_numbers (n ∷ ns) ss None h = record { is = tt }
after_numbers (n ∷ ns) ss (Some f) h = record { is = (after_numbers ns ss (Some f) h).is }

-- keys that are read leave the fault to those after them
after : (ns : List ℕ) (rs ss : List (Result ℕ Fault)) (o : Option Fault) → rs ≡ map Ok ns → IsFirst ss o → IsFirst (rs ++ ss) o
after ns rs ss o e h = subst (λ (xs : List (Result ℕ Fault)). IsFirst (xs ++ ss) o) (sym e) (after_numbers ns ss o h)

still_first : (rs ss : List (Result ℕ Fault)) (f : Fault) → first_fault rs ≡ Some f → first_fault (rs ++ ss) ≡ Some f
still_first [] ss f h = cc
still_first (Ok n ∷ rs) ss f h = still_first rs ss f h
still_first (Err g ∷ rs) ss f h = h

-- keys behind the first at fault change nothing
within : (rs ss : List (Result ℕ Fault)) (o : Option Fault) → IsFirst rs o → IsFirst (rs ++ ss) o
within rs ss None h = record { is = tt }
within rs ss (Some f) h = record { is = still_first rs ss f h.is }

-- ---- what a key's fault can be

abbrev pub OfKey : Fault → Type 0
OfKey not_toml = ⊥
OfKey (missing key) = ⊤
OfKey (out_of_range key) = ⊤
OfKey (extra key) = ⊥

abbrev pub OfKeyIfErr : Result ℕ Fault → Type 0
OfKeyIfErr (Ok n) = ⊤
OfKeyIfErr (Err f) = OfKey f

pub record IsOfKey (r : Result ℕ Fault) : Type 0 where
  pub is : OfKeyIfErr r

number_fault : (path : Text) (o : Option ℕ) → IsOfKey (ok_or_out path o)
number_fault path None = record { is = tt }
number_fault path (Some n) = record { is = tt }

value_fault : (least most : ℕ) (path : Text) (d : Option Data) → IsOfKey (number_at least most path d)
value_fault least most path None = record { is = tt }
value_fault least most path (Some d) = number_fault path (number_in least most d)

table_fault : (least most : ℕ) (name key : Text) (o : Option Members) → IsOfKey (cost_in least most name key o)
table_fault least most name key None = record { is = tt }
table_fault least most name key (Some ms) = value_fault least most _ (get_member key ms)

cost_fault : (least most : ℕ) (name key : Text) (d : Option Data) → IsOfKey (cost_at least most name key d)
cost_fault least most name key None = record { is = tt }
cost_fault least most name key (Some d) = table_fault least most name key (as_table d)

reading_fault : (ms : Members) (key : Key) → IsOfKey (reading ms key)
reading_fault ms (at_top key least most) = value_fault least most key (get_member key ms)
reading_fault ms (in_table name key least most) = cost_fault least most name key (get_member name ms)

first_by : (rs : List (Result ℕ Fault)) (r : Result ℕ Fault) (f : Fault) → IsOfKey r → (first_fault rs ≡ Some f → OfKey f) → first_fault (r ∷ rs) ≡ Some f → OfKey f
first_by rs (Ok n) f h rest e = rest e
first_by rs (Err g) f h rest e = subst OfKey (same g f e) h.is
  where
    same : (g f : Fault) → Some g ≡ Some f → g ≡ f
    same g f e = cc

first_of_key : (ms : Members) (keys : List Key) (f : Fault) → first_fault (map (reading ms) keys) ≡ Some f → OfKey f
first_of_key ms [] f e = cc
first_of_key ms (key ∷ keys) f e = first_by (map (reading ms) keys) (reading ms key) f (reading_fault ms key) (first_of_key ms keys f) e

fault_in : (ms : Members) (f : Fault) → first_fault (readings ms) ≡ Some f → IsFaultIn ms f
fault_in ms not_toml h = absurd (first_of_key ms board_keys not_toml h)
fault_in ms (missing key) h = h
fault_in ms (out_of_range key) h = h
fault_in ms (extra key) h = absurd (first_of_key ms board_keys (extra key) h)

fault_if : (ms : Members) (o : Option Fault) → IsFirst (readings ms) o → IfFault (IsFaultIn ms) o
fault_if ms None h = tt
fault_if ms (Some f) h = fault_in ms f h.is

-- ---- the faults that `?` passes up

refused : (ms : Members) (r : Result Board BoardFault) (e : BoardFault) → IsErrAnd r (λ y. y ≡ e) → IsFirst (readings ms) (fault_of e)
    → MatchResult r (IsBoardIn ms) (RefusesIn ms)
refused ms (Ok b) e is h = absurd is
refused ms (Err y) e is h = subst (RefusesIn ms) (sym is) (fault_if ms (fault_of e) h)

pub budget_fails : (ms : Members) (r : Result Board BoardFault) (e : BoardFault) → IsErrAnd r (λ y. y ≡ e) → IfFault (λ f. budget_at ms ≡ Err f) (fault_of e)
    → MatchResult r (IsBoardIn ms) (RefusesIn ms)
budget_fails ms r e is h = refused ms r e is (fails (budget_at ms) (core_at ms ++ access_at ms) (fault_of e) h)

pub core_fails : (ms : Members) (r : Result Board BoardFault) (e : BoardFault) (n : ℕ) → IsErrAnd r (λ y. y ≡ e) → budget_at ms ≡ Ok n
    → IfFault (λ f. first_fault (core_at ms) ≡ Some f) (fault_of e) → MatchResult r (IsBoardIn ms) (RefusesIn ms)
core_fails ms r e n is budget_ok h =
    refused ms r e is (next (budget_at ms) n (core_at ms ++ access_at ms) (fault_of e) budget_ok (within (core_at ms) (access_at ms) (fault_of e) (record { is = h })))

pub access_fails : (ms : Members) (r : Result Board BoardFault) (e : BoardFault) (n : ℕ) (core : List ℕ) → IsErrAnd r (λ y. y ≡ e) → budget_at ms ≡ Ok n
    → core_at ms ≡ map Ok core → IfFault (λ f. first_fault (access_at ms) ≡ Some f) (fault_of e) → MatchResult r (IsBoardIn ms) (RefusesIn ms)
access_fails ms r e n core is budget_ok core_ok h =
    refused ms r e is (next (budget_at ms) n (core_at ms ++ access_at ms) (fault_of e) budget_ok (after core (core_at ms) (access_at ms) (fault_of e) core_ok (record { is = h })))
