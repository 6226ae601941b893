-- What is found in the code, as values of the program, and the definitions that they stand for.
use Rattle.std.specs.Prelude.{ℕ, true, false, List, map, Option, Some, None, if◌then◌else◌}
use Rattle.std.specs.Option.{option_map}
use Rattle.certificate.specs.declared.cert.PointRow.{PointRow}
use Rattle.certificate.specs.Rows.{Point, function_of, point_of}
use Rattle.cert_state.specs.Shown.{blocks_in, functions_in}
use Rattle.cert_state.specs.Views.{known_of}
use Rattle.msp430_isa.specs.declared.instr.Cond.{Cond}
use Rattle.cert_rules.specs.Known.{Known, Test}
use Rattle.cert_rules.specs.Effects.{is_always, on_edge}
use Rattle.cert_rules.specs.Sheet as rules_sheet
use Rattle.cert_rules.specs.Forms as rules_forms
use Rattle.cert_rules.specs.Standing as rules_standing
use Rattle.cert_rules.specs.Outcomes as rules_outcomes
use Rattle.cert_sweep.specs.declared.sheet.Sheet.{Sheet}
use Rattle.cert_sweep.specs.declared.forms.Kind.{Kind}
use Rattle.cert_sweep.specs.declared.forms.Kind.TheVariants.{Computes, Branches, Leaps, Calls, Returns}
use Rattle.cert_sweep.specs.declared.array.Copied.{Copied}
use Rattle.cert_sweep.specs.declared.standing.Standing.{Standing}
use Rattle.cert_sweep.specs.declared.standing.Standing.TheVariants.{ACopy, AnInstruction, Nothing}
use Rattle.cert_sweep.specs.declared.outcomes.Outcome.{Outcome}
use Rattle.cert_sweep.specs.declared.outcomes.Outcome.TheVariants.{Goes, Ends, Leaves, Enters}

abbrev pub points_in : List PointRow → List Point
points_in points = map point_of points

abbrev pub sheet_of : Sheet → rules_sheet.Sheet
sheet_of t = record {
  blocks = blocks_in t.segments.now.items;
  board = t.board.now;
  functions = functions_in t.functions.now.items;
  stretches = t.stretches.now.items;
  points = points_in t.points.now.items;
  here = function_of t.here.now;
  is_first = t.is_first;
}

abbrev pub kind_shown : Kind → rules_forms.Kind
kind_shown Computes = rules_forms.Computes
kind_shown (Branches on words) = rules_forms.Branches on words
kind_shown (Leaps target) = rules_forms.Leaps target
kind_shown (Calls target) = rules_forms.Calls target
kind_shown Returns = rules_forms.Returns

abbrev pub copy_shown : Copied → rules_standing.Copy
copy_shown c = record { words = c.words; source = c.source; target = c.target }

abbrev pub standing_shown : Standing → rules_standing.Standing
standing_shown (ACopy c) = rules_standing.ACopy (copy_shown c)
standing_shown (AnInstruction i) = rules_standing.AnInstruction i
standing_shown Nothing = rules_standing.Nothing

abbrev pub outcome_shown : Outcome → rules_outcomes.Outcome
outcome_shown (Goes falls jumps target) = rules_outcomes.Goes (option_map known_of falls) (option_map known_of jumps) target
outcome_shown (Ends s) = rules_outcomes.Ends (known_of s)
outcome_shown (Leaves s) = rules_outcomes.Leaves (known_of s)
outcome_shown (Enters s) = rules_outcomes.Enters (known_of s)

-- how a conditional jump goes on, with what the flags tell before it
abbrev pub branched : Cond → ℕ → Option Test → Known → rules_outcomes.Outcome
branched on target test κ = if is_always on then rules_outcomes.Goes None (Some κ) target else rules_outcomes.Goes (on_edge on false test κ) (on_edge on true test κ) target
