-- Boards with the same numbers are the same.
use Rattle.std.specs.Prelude.{map}
use Rattle.std.proofs.Common.{◌≡◌, ◌≤◌, ap, refl, subst, ℕ, List, [], ◌∷◌, Result, Ok}
use Rattle.std.proofs.Props.{props}
use Rattle.board_table.specs.Faults.{Fault}
use Rattle.board_table.specs.Reading.{access_numbers, core_numbers, numbers_of}
use Rattle.board_table.specs.declared.board.Access.{Access}
use Rattle.board_table.specs.declared.board.Board.{Board}
use Rattle.board_table.specs.declared.board.Core.{Core}

abbrev one : ℕ → Result ℕ Fault
one n = Ok n

pub first_same : {A : Type 0} (x y : A) (xs ys : List A) → x ∷ xs ≡ y ∷ ys → x ≡ y
first_same x y xs ys e = cc

pub rest_same : {A : Type 0} (x y : A) (xs ys : List A) → x ∷ xs ≡ y ∷ ys → xs ≡ ys
rest_same x y xs ys e = cc

ok_same : (m n : ℕ) → one m ≡ one n → m ≡ n
ok_same m n e = cc

pub numbers_same : (ms ns : List ℕ) → map one ms ≡ map one ns → ms ≡ ns
numbers_same [] [] e = refl
numbers_same [] (n ∷ ns) e = cc
numbers_same (m ∷ ms) [] e = cc
numbers_same (m ∷ ms) (n ∷ ns) e = rw (ok_same m n (first_same _ _ _ _ e), numbers_same ms ns (rest_same _ _ _ _ e)) refl

-- what is made of a value and of a fact that has at most one proof is as the value is
by_value : (A B : Type 0) (P : A → Type 0) → ((x : A) → IsProp (P x)) → (make : (x : A) → P x → B) → (x y : A) → x ≡ y → (p : P x) (q : P y) → make x p ≡ make y q
by_value A B P prop make x y e p q =
    let at : A → Type 0 = λ z. (q : P z) → make x p ≡ make z q in
    subst at e (λ q. ap (make x) (prop x p q)) q

abbrev CoreValues : Type 0
CoreValues = ℕ × ℕ × ℕ × ℕ × ℕ × ℕ

abbrev CoreRanges : CoreValues → Type 0
CoreRanges v = ((1 ≤ v.0) × (v.0 ≤ 1000000)) × ((1 ≤ v.1) × (v.1 ≤ 1000000)) × ((1 ≤ v.2) × (v.2 ≤ 1000000)) × ((1 ≤ v.3) × (v.3 ≤ 1000000)) × ((1 ≤ v.4) × (v.4 ≤ 1000000)) × ((1 ≤ v.5) × (v.5 ≤ 1000000))

abbrev core_from : (v : CoreValues) → CoreRanges v → Core
core_from v h = record { move_ = v.0; alu = v.1; one = v.2; push = v.3; call = v.4; jump = v.5; move_range = h.0; alu_range = h.1; one_range = h.2; push_range = h.3; call_range = h.4; jump_range = h.5 }

abbrev core_values : Core → CoreValues
core_values b = (b.move_, b.alu, b.one, b.push, b.call, b.jump)

abbrev core_ranges : (b : Core) → CoreRanges (core_values b)
core_ranges b = (b.move_range, b.alu_range, b.one_range, b.push_range, b.call_range, b.jump_range)

core_prop : (v : CoreValues) → IsProp (CoreRanges v)
core_prop v = hlevel props

pub core_same : (b c : Core) → core_numbers b ≡ core_numbers c → b ≡ c
core_same b c e =
    let same : core_values b ≡ core_values c = cc in
    by_value CoreValues Core CoreRanges core_prop core_from (core_values b) (core_values c) same (core_ranges b) (core_ranges c)

abbrev AccessValues : Type 0
AccessValues = ℕ × ℕ × ℕ × ℕ × ℕ × ℕ × ℕ

abbrev AccessRanges : AccessValues → Type 0
AccessRanges v = (v.0 ≤ 1000000) × (v.1 ≤ 1000000) × (v.2 ≤ 1000000) × (v.3 ≤ 1000000) × (v.4 ≤ 1000000) × (v.5 ≤ 1000000) × (v.6 ≤ 1000000)

abbrev access_from : (v : AccessValues) → AccessRanges v → Access
access_from v h = record { fetch = v.0; sram_read = v.1; sram_write = v.2; fram_read = v.3; fram_write = v.4; port_read = v.5; port_write = v.6; fetch_range = h.0; sram_read_range = h.1; sram_write_range = h.2; fram_read_range = h.3; fram_write_range = h.4; port_read_range = h.5; port_write_range = h.6 }

abbrev access_values : Access → AccessValues
access_values b = (b.fetch, b.sram_read, b.sram_write, b.fram_read, b.fram_write, b.port_read, b.port_write)

abbrev access_ranges : (b : Access) → AccessRanges (access_values b)
access_ranges b = (b.fetch_range, b.sram_read_range, b.sram_write_range, b.fram_read_range, b.fram_write_range, b.port_read_range, b.port_write_range)

access_prop : (v : AccessValues) → IsProp (AccessRanges v)
access_prop v = hlevel props

pub access_same : (b c : Access) → access_numbers b ≡ access_numbers c → b ≡ c
access_same b c e =
    let same : access_values b ≡ access_values c = cc in
    by_value AccessValues Access AccessRanges access_prop access_from (access_values b) (access_values c) same (access_ranges b) (access_ranges c)

abbrev BoardValues : Type 0
BoardValues = ℕ × Core × Access

abbrev BoardRange : BoardValues → Type 0
BoardRange v = (1 ≤ v.0) × (v.0 ≤ 1000000000)

abbrev board_from : (v : BoardValues) → BoardRange v → Board
board_from v h = record { budget = v.0; core = v.1; access = v.2; budget_range = h }

board_prop : (v : BoardValues) → IsProp (BoardRange v)
board_prop v = hlevel props

pub board_same : (b c : Board) → numbers_of b ≡ numbers_of c → b ≡ c
board_same b c e =
    let core : b.core ≡ c.core = core_same b.core c.core cc in
    let access : b.access ≡ c.access = access_same b.access c.access cc in
    let budget : b.budget ≡ c.budget = cc in
    let values : BoardValues = (b.budget, b.core, b.access) in
    let others : BoardValues = (c.budget, c.core, c.access) in
    let same : values ≡ others = cc in
    by_value BoardValues Board BoardRange board_prop board_from values others same b.budget_range c.budget_range
