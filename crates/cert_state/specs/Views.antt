-- What is known of the code, as values of the program, and the definitions that they stand for.
use Rattle.std.specs.Prelude.{ℕ, ◌≤◌, Bool, not, ◌&&◌, List, [], ◌∷◌, Option, Some, None, if◌then◌else◌, unwrap_or}
use Rattle.std.specs.Option.{option_map}
use Rattle.certificate.specs.declared.cert.Slot.{Slot}
use Rattle.certificate.specs.declared.cert.Fact.{Fact}
use Rattle.certificate.specs.Rows.{Spent, flat_of}
use Rattle.cert_rules.specs.Slots.{same_slot, is_sram, is_memory, in_spans}
use Rattle.cert_rules.specs.Ranges as rules_ranges
use Rattle.cert_rules.specs.Spending as rules_spending
use Rattle.cert_rules.specs.Known as rules_known
use Rattle.cert_rules.specs.Known.{hits}
use Rattle.cert_rules.specs.Effects.{lost_by_call}
use Rattle.cert_rules.specs.Places as rules_places
use Rattle.cert_rules.specs.Effects as rules_effects
use Rattle.cert_rules.specs.Outcomes.{is_end}
use Rattle.cert_state.specs.Spots.{slot_at}
use Rattle.cert_state.specs.declared.sought.Sought.{Sought}
use Rattle.cert_state.specs.declared.sought.Sought.TheVariants.{Stale, Unnamed, Unwritten, NoEnd}
use Rattle.cert_state.specs.declared.range.Range.{Range}
use Rattle.cert_state.specs.declared.hits.Hit.{Hit}
use Rattle.cert_state.specs.declared.hits.Hit.TheVariants.{One, Words, Lost}
use Rattle.cert_state.specs.declared.values.Held.{Held}
use Rattle.cert_state.specs.declared.factor.Factor.{Factor}
use Rattle.cert_state.specs.declared.spent.Spending.{Spending}
use Rattle.cert_state.specs.declared.amounts.Value.{Value}
use Rattle.cert_state.specs.declared.amounts.Value.TheVariants.{Greatest, Least, Fixed}
use Rattle.cert_state.specs.declared.state.Test.{Test}
use Rattle.cert_state.specs.declared.state.State.{State}
use Rattle.cert_state.specs.declared.effects.Narrowing.{Narrowing}
use Rattle.cert_state.specs.declared.effects.Narrowing.TheVariants.{Stays, To}
use Rattle.cert_state.specs.declared.reach.Reach.{Reach}
use Rattle.cert_state.specs.declared.reach.Place.{Place}
use Rattle.cert_state.specs.declared.reach.Place.TheVariants.{Number, InReg, InReach}

-- the words that a search stops at
abbrev pub sought : Sought → ℕ → Bool
sought (Stale fresh) a = is_sram a && not (in_spans fresh.now.items a)
sought (Unnamed writes) a = is_memory a && not (in_spans writes.now.items a)
sought (Unwritten fresh) a = not (in_spans fresh.now.items a)
sought NoEnd a = not (is_end a)

abbrev pub ranged : Range → rules_ranges.Range
ranged r = record { least = r.least; greatest = r.greatest; even = r.even }

-- the slots that are forgotten
abbrev pub hit_by : Hit → Slot → Bool
hit_by (One w) x = same_slot x (slot_at w)
hit_by (Words least greatest) x = hits least greatest x
hit_by (Lost f) x = lost_by_call (flat_of f.now) x

-- the range of a slot, where one is held
abbrev pub range_in : List Held → Slot → Option rules_ranges.Range
range_in [] x = None
range_in (h ∷ held) x = if same_slot h.of x then Some (ranged h.range) else range_in held x

-- the range of a slot, or any word
abbrev pub range_or_any : List Held → Slot → rules_ranges.Range
range_or_any held x = unwrap_or (range_in held x) rules_ranges.any_word

-- the value that stands for a slot
abbrev pub valued : Value → Slot → ℕ
valued (Greatest held) x = (range_or_any held.now.items x).greatest
valued (Least held) x = (range_or_any held.now.items x).least
valued (Fixed c) x = c

abbrev pub spent_of : Spending → Spent
spent_of s = record { base = s.base; terms = s.terms.items }

abbrev pub factor_of : Factor → rules_spending.Factor
factor_of f = record { of = f.of; adds = f.adds; takes = f.takes }

abbrev pub test_of : Test → rules_known.Test
test_of t = record { of = t.of; with = t.with; ordered = t.ordered }

abbrev pub known_of : State → rules_known.Known
known_of s = record {
  stretch = s.stretch;
  spent = spent_of s.spent;
  range = λ x. range_in s.values.items x;
  fresh = λ a. in_spans s.fresh.items a;
  flags = s.flags;
  test = option_map test_of s.test;
}

abbrev pub reach_of : Reach → rules_places.Reach
reach_of p = record { least = p.least; greatest = p.greatest; even = p.even }

abbrev pub place_of : Place → rules_places.Place
place_of (Number v) = rules_places.Number v
place_of (InReg r) = rules_places.InReg r
place_of (InReach p) = rules_places.InReach (reach_of p)

abbrev pub narrowing_of : Narrowing → rules_effects.Narrowing
narrowing_of Stays = rules_effects.Stays
narrowing_of (To r) = rules_effects.To (option_map ranged r)

-- a fact of a certificate's point: a word's range
abbrev pub IsKept : Fact → Type 0
IsKept f = (f.least ≤ f.greatest) × (f.greatest ≤ 65535)

abbrev pub AllKept : List Fact → Type 0
AllKept [] = Unit {0}
AllKept (f ∷ facts) = IsKept f × AllKept facts

-- the range of a slot by ranges, and else by facts
abbrev pub or_range : Option rules_ranges.Range → Option rules_ranges.Range → Option rules_ranges.Range
or_range None other = other
or_range (Some r) other = Some r

abbrev pub range_in_both : List Held → List Fact → Slot → Option rules_ranges.Range
range_in_both held facts x = or_range (range_in held x) (rules_known.range_in facts x)
