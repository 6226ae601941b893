-- The rules on calls and returns.
use Rattle.std.specs.Prelude.{ℕ, nat_le, nat_lt, false, not, ◌||◌, List, [], ◌∷◌, Option, Some, None, pos, if◌then◌else◌}
use Rattle.std.specs.Option.{option_or}
use Rattle.certificate.specs.declared.cert.Span.{Span}
use Rattle.certificate.specs.Rows.{Function, Flat}
use Rattle.cert_rules.specs.declared.Rule.TheVariants.{Writes, Call}
use Rattle.cert_rules.specs.Faults.{Fault, unless, unless_none, first_fault}
use Rattle.cert_rules.specs.Slots.{first_in}
use Rattle.cert_rules.specs.Forms.{Kind, Calls, Returns}
use Rattle.cert_rules.specs.Tables.{function_at, is_split}
use Rattle.cert_rules.specs.Sheet.{Sheet}
use Rattle.cert_rules.specs.Accesses.{unnamed}

abbrev pub flat_of : Option Function → Option Flat
flat_of None = None
flat_of (Some g) = g.flat

-- a word that the callee may write and the flat function doesn't name: the least
abbrev pub least_word : Option ℕ → Option ℕ → Option ℕ
least_word None other = other
least_word (Some a) None = Some a
least_word (Some a) (Some b) = if nat_le a b then Some a else Some b

abbrev pub unnamed_word : List Span → List Span → Option ℕ
unnamed_word own [] = None
unnamed_word own (s ∷ spans) = least_word (first_in (unnamed own) s.lo s.hi) (unnamed_word own spans)

abbrev pub callee_writes_fault : ℕ → Option Flat → Option Flat → Option Fault
callee_writes_fault a (Some f) (Some g) = unless_none (unnamed_word f.writes g.writes) Writes a
callee_writes_fault a f g = None

abbrev pub callee_fault : Sheet → ℕ → ℕ → Option Function → Option Fault
callee_fault t a target None = unless false Call a (pos target) (pos 0)
callee_fault t a target (Some g) = first_fault (
    unless (nat_lt g.height t.here.height) Call a (pos g.height) (pos t.here.height)
    ∷ unless (is_split t.here || not (is_split g)) Call a (pos target) (pos 0)
    ∷ [])

abbrev pub call_fault : Sheet → ℕ → Kind → Option Fault
call_fault t a (Calls target) =
    let g = function_at t.functions target in
    option_or (callee_writes_fault a t.here.flat (flat_of g)) (callee_fault t a target g)
call_fault t a Returns = unless (not t.is_first) Call a (pos a) (pos 0)
call_fault t a kind = None
