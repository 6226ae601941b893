-- What is known stays true where states and knowledge change together.
use Rattle.std.proofs.Common.{◌≡◌, ℕ, ◌+◌, ◌%◌, ◌<◌, ◌≤◌, Bool, true, false, Option, Some, None, refl, sym, ap, subst, arith}
use Rattle.std.specs.Prelude.{if◌then◌else◌, ◌&&◌, ◌||◌, nat_le, unwrap_or, is_some, ℤ, pos}
use Rattle.std.specs.Int.Signed.{◌≤ℤ◌}
use Rattle.std.proofs.lemmas.Int.{ints}
use Rattle.std.proofs.lemmas.Bool.{and_parts}
use Rattle.certificate.specs.declared.cert.Slot.{Slot}
use Rattle.certificate.specs.declared.cert.Slot.TheVariants.{Reg, Word}
use Rattle.certificate.specs.Rows.{Spent, Flat}
use Rattle.msp430_machine.specs.State.{State}
use Rattle.cert_rules.specs.Slots.{same_slot, is_held, is_sram}
use Rattle.cert_rules.specs.Ranges.{Range, Within, any_word}
use Rattle.cert_rules.specs.Spending.{bound_at}
use Rattle.cert_rules.specs.Known.{Known, Test, range_of, is_set, with_cost, given, forgetting, freshened}
use Rattle.cert_rules.specs.Effects.{lost_by_call, called}
use Rattle.cert_rules.proofs.SpendingLemmas.{added_le, taken_le, bound_le_settled}
use Rattle.cert_effects.specs.Written.{Written}
use Rattle.cert_effects.specs.Knows.{value_of, Holds}
use Rattle.cert_effects.proofs.Values.{Sets, equal_numbers}
use Rattle.cert_effects.proofs.Results.{any_within}

-- ---- Slots

pub slots_equal : (x y : Slot) → same_slot x y ≡ true → x ≡ y
slots_equal (Reg r) (Reg q) h = ap (λ n. Reg n) (equal_numbers r q h)
slots_equal (Word a) (Word b) h = ap (λ n. Word n) (equal_numbers a b h)
slots_equal (Reg r) (Word b) h = absurd (let no : false ≡ true = h in cc)
slots_equal (Word a) (Reg q) h = absurd (let no : false ≡ true = h in cc)

-- ---- Bounds at values that are the same

pub bound_cong : (v u : Slot → ℕ) (s : Spent) → ((x : Slot) → v x ≡ u x) → bound_at v s ≡ bound_at u s
bound_cong v u s h =
    omega (
      arith,
      ints,
      added_le v u s.terms (λ x. omega (arith, h x)),
      added_le u v s.terms (λ x. omega (arith, h x)),
      taken_le v u s.terms (λ x. omega (arith, h x)),
      taken_le u v s.terms (λ x. omega (arith, h x)),
    )

pub bound_mono : (n : ℕ) (a b : ℤ) → pos n ≤ℤ a → a ≤ℤ b → pos n ≤ℤ b
bound_mono n a b h k = omega (arith, ints, h, k)

-- ---- States that have the same values

pub holds_moved : (κ : Known) (s t : State) (w : Written) (n : ℕ) → ((x : Slot) → value_of t x ≡ value_of s x) → Holds κ s w n → Holds κ t w n
holds_moved κ s t w n same h = record {
  words = λ x. subst (λ v. v < 65536) (sym (same x)) (h.words x);
  range = λ x. subst (λ v. Within (range_of κ x) v) (sym (same x)) (h.range x);
  set = h.set;
  fresh = h.fresh;
  flags = h.flags;
  bound = subst (λ z. pos n ≤ℤ z) (sym (bound_cong (value_of t) (value_of s) κ.spent same)) h.bound;
}

-- ---- More is written

pub record More (w u : Written) : Type 0 where
  pub registers : (r : ℕ) → w.registers r ≡ true → u.registers r ≡ true
  pub words : (a : ℕ) → w.words a ≡ true → u.words a ≡ true
  pub flags : w.flags ≡ true → u.flags ≡ true

pub holds_more : (κ : Known) (s : State) (w u : Written) (n : ℕ) → More w u → Holds κ s w n → Holds κ s u n
holds_more κ s w u n m h = record {
  words = h.words;
  range = h.range;
  set = λ r e. m.registers r (h.set r e);
  fresh = λ a even e. m.words a (h.fresh a even e);
  flags = λ e. m.flags (h.flags e);
  bound = h.bound;
}

-- ---- A cost is paid

pub holds_paid : (κ : Known) (s : State) (w : Written) (n c : ℕ) → Holds κ s w n → Holds (with_cost c κ) s w (n + c)
holds_paid κ s w n c h = record {
  words = h.words;
  range = h.range;
  set = h.set;
  fresh = h.fresh;
  flags = h.flags;
  bound = omega (arith, ints, h.bound);
}

-- ---- Flags

pub holds_flags : (κ : Known) (s : State) (w : Written) (n : ℕ) (flags : Bool) (test : Option Test) → (flags ≡ true → w.flags ≡ true) → Holds κ s w n → Holds (record κ { flags = flags; test = test }) s w n
holds_flags κ s w n flags test f h = record { words = h.words; range = h.range; set = h.set; fresh = h.fresh; flags = f; bound = h.bound }

-- ---- A slot is set

pub holds_given : (κ : Known) (s t : State) (w : Written) (n : ℕ) (x : Slot) (r : Range) (v : ℕ) (spent : Spent)
    → is_held x ≡ true → Sets s t x v → v < 65536 → Within r v → ((q : ℕ) → x ≡ Reg q → w.registers q ≡ true) → pos n ≤ℤ bound_at (value_of t) spent → Holds κ s w n
    → Holds (given x r spent κ) t w n
holds_given κ s t w n x r v spent held sets small within written bound h = record {
  words = words;
  range = range;
  set = set;
  fresh = h.fresh;
  flags = h.flags;
  bound = bound;
}
  where
    words : (y : Slot) → value_of t y < 65536
    words y = elim (same_slot y x) as (λ c. same_slot y x ≡ c → value_of t y < 65536) [
      | true ↦ λ e. subst (λ k. k < 65536) (sym (sets.here y e)) small
      | false ↦ λ e. subst (λ k. k < 65536) (sym (sets.there y e)) (h.words y)
    ] refl

    range : (y : Slot) → Within (range_of (given x r spent κ) y) (value_of t y)
    range y = elim (same_slot y x) as (λ c. same_slot y x ≡ c → Within (unwrap_or (if c && is_held x then Some r else κ.range y) any_word) (value_of t y)) [
      | true ↦ λ e. subst (λ b. Within (unwrap_or (if b then Some r else κ.range y) any_word) (value_of t y)) (sym held) (subst (λ k. Within r k) (sym (sets.here y e)) within)
      | false ↦ λ e. subst (λ k. Within (range_of κ y) k) (sym (sets.there y e)) (h.range y)
    ] refl

    set : (q : ℕ) → is_set (given x r spent κ) q ≡ true → w.registers q ≡ true
    set q = elim (same_slot (Reg q) x) as (λ c. same_slot (Reg q) x ≡ c → is_some (if c && is_held x then Some r else κ.range (Reg q)) ≡ true → w.registers q ≡ true) [
      | true ↦ λ e k. written q (sym (slots_equal (Reg q) x e))
      | false ↦ λ e k. h.set q k
    ] refl

-- a slot that holds no value
pub holds_not_given : (κ : Known) (s t : State) (w : Written) (n : ℕ) (x : Slot) (r : Range) (spent : Spent)
    → is_held x ≡ false → ((y : Slot) → value_of t y ≡ value_of s y) → pos n ≤ℤ bound_at (value_of t) spent → Holds κ s w n
    → Holds (given x r spent κ) t w n
holds_not_given κ s t w n x r spent held same bound h = record {
  words = λ y. subst (λ k. k < 65536) (sym (same y)) (h.words y);
  range = range;
  set = set;
  fresh = h.fresh;
  flags = h.flags;
  bound = bound;
}
  where
    range : (y : Slot) → Within (range_of (given x r spent κ) y) (value_of t y)
    range y =
        let old : Within (range_of κ y) (value_of t y) = subst (λ k. Within (range_of κ y) k) (sym (same y)) (h.range y) in
        elim (same_slot y x) as (λ c. Within (unwrap_or (if c && is_held x then Some r else κ.range y) any_word) (value_of t y)) [
          | true ↦ subst (λ b. Within (unwrap_or (if b then Some r else κ.range y) any_word) (value_of t y)) (sym held) old
          | false ↦ old
        ]

    set : (q : ℕ) → is_set (given x r spent κ) q ≡ true → w.registers q ≡ true
    set q = elim (same_slot (Reg q) x) as (λ c. is_some (if c && is_held x then Some r else κ.range (Reg q)) ≡ true → w.registers q ≡ true) [
      | true ↦ λ k. h.set q (subst (λ b. is_some (if b then Some r else κ.range (Reg q)) ≡ true) held k)
      | false ↦ λ k. h.set q k
    ]

-- ---- Slots are forgotten

pub holds_forgetting : (κ : Known) (s t : State) (w : Written) (n : ℕ) (hit : Slot → Bool)
    → ((x : Slot) → hit x ≡ false → value_of t x ≡ value_of s x) → ((x : Slot) → value_of t x < 65536) → Holds κ s w n
    → Holds (forgetting hit κ) t w n
holds_forgetting κ s t w n hit same words h = record {
  words = words;
  range = range;
  set = set;
  fresh = h.fresh;
  flags = h.flags;
  bound = bound_mono n _ _ h.bound (bound_le_settled hit (range_of κ) (value_of s) (value_of t) κ.spent h.range (λ x e. sym (same x e)));
}
  where
    range : (y : Slot) → Within (range_of (forgetting hit κ) y) (value_of t y)
    range y = elim (hit y) as (λ c. hit y ≡ c → Within (unwrap_or (if c then None else κ.range y) any_word) (value_of t y)) [
      | true ↦ λ e. any_within (value_of t y) (words y)
      | false ↦ λ e. subst (λ k. Within (range_of κ y) k) (sym (same y e)) (h.range y)
    ] refl

    set : (q : ℕ) → is_set (forgetting hit κ) q ≡ true → w.registers q ≡ true
    set q = elim (hit (Reg q)) as (λ c. is_some (if c then None else κ.range (Reg q)) ≡ true → w.registers q ≡ true) [
      | true ↦ λ k. absurd (let no : false ≡ true = k in cc)
      | false ↦ λ k. h.set q k
    ]

-- ---- Words become fresh

pub holds_freshened : (κ : Known) (s : State) (w : Written) (n lo hi : ℕ)
    → ((a : ℕ) → a % 2 ≡ 0 → nat_le lo a ≡ true → nat_le a hi ≡ true → is_sram a ≡ true → w.words a ≡ true) → Holds κ s w n
    → Holds (freshened lo hi κ) s w n
holds_freshened κ s w n lo hi written h = record {
  words = h.words;
  range = h.range;
  set = h.set;
  fresh = fresh;
  flags = h.flags;
  bound = h.bound;
}
  where
    fresh : (a : ℕ) → a % 2 ≡ 0 → ((nat_le lo a && nat_le a hi && is_sram a) || κ.fresh a) ≡ true → w.words a ≡ true
    fresh a even = elim (nat_le lo a && nat_le a hi && is_sram a) as (λ c. (nat_le lo a && nat_le a hi && is_sram a) ≡ c → (c || κ.fresh a) ≡ true → w.words a ≡ true) [
      | true ↦ λ e k. (let p = and_parts (nat_le lo a && nat_le a hi) (is_sram a) e in let q = and_parts (nat_le lo a) (nat_le a hi) p.0 in written a even q.0 q.1 p.1)
      | false ↦ λ e k. h.fresh a even k
    ] refl

-- ---- Less is spent

pub holds_less : (κ : Known) (s : State) (w : Written) (n m : ℕ) → m ≤ n → Holds κ s w n → Holds κ s w m
holds_less κ s w n m le h = record { words = h.words; range = h.range; set = h.set; fresh = h.fresh; flags = h.flags; bound = omega (arith, ints, le, h.bound) }

-- ---- A call of a flat function has come back

pub called_holds : (f : Flat) (κ : Known) (s t : State) (w u : Written) (n m c : ℕ) → Holds κ s w n → More w u → ((x : Slot) → lost_by_call f x ≡ false → value_of t x ≡ value_of s x) → ((x : Slot) → value_of t x < 65536)
    → m ≤ n + c + f.cost → Holds (called f (with_cost c κ)) t u m
called_holds f κ s t w u n m c h more stays words le =
    let paid : Known = with_cost f.cost (with_cost c κ) in
    holds_less (called f (with_cost c κ)) t u (n + c + f.cost) m le
    (holds_flags (forgetting (lost_by_call f) paid) t u (n + c + f.cost) false None (λ e. absurd (let no : false ≡ true = e in cc))
    (holds_forgetting paid s t u (n + c + f.cost) (lost_by_call f) stays words
    (holds_more paid s w u (n + c + f.cost) more (holds_paid (with_cost c κ) s w (n + c) f.cost (holds_paid κ s w n c h)))))
