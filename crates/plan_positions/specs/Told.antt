-- Sections and positions as the code holds them.
use Rattle.std.specs.Prelude.{ℕ, ◌+◌, List, [], ◌∷◌, ◌++◌, length, map, Vec}
use Rattle.std.specs.declared.alloc.Global.{Global}
use Rattle.chain_units.specs.Known.{Known}
use Rattle.plan_code.specs.Sections as code
use Rattle.plan_code.specs.Positions as positions
use Rattle.plan_positions.specs.declared.section.Shape.{Shape}
use Rattle.plan_positions.specs.declared.section.Shape.TheVariants.{Callee, Straight, Rounds}
use Rattle.plan_positions.specs.declared.section.Section.{Section}
use Rattle.plan_positions.specs.declared.position.Goal.{Goal}
use Rattle.plan_positions.specs.declared.position.Goal.TheVariants.{Nowhere, To, Enters}
use Rattle.plan_positions.specs.declared.position.What.{What}
use Rattle.plan_positions.specs.declared.position.What.TheVariants.{Sleeps, Restores, Sets, Does, Turns, Saves}
use Rattle.plan_positions.specs.declared.position.Position.{Position}

abbrev pub told_shape : Shape → code.Shape
told_shape Callee = code.Callee
told_shape (Straight ends) = code.Straight ends
told_shape (Rounds turns) = code.Rounds turns

abbrev pub told_opening : Section → code.Opening
told_opening s = record { first = s.first; shape = told_shape s.shape; homes = s.homes.items; chain = s.chain; cost = s.cost }

abbrev pub told_section : Section → code.Section
told_section s = record { opening = told_opening s; behind = s.behind }

abbrev pub told_goal : Goal → positions.Goal
told_goal Nowhere = positions.Nowhere
told_goal (To i) = positions.To i
told_goal (Enters n) = positions.Enters n

abbrev pub told_what : What → positions.What
told_what Sleeps = positions.Sleeps
told_what (Restores o) = positions.Restores o
told_what (Sets turns) = positions.Sets turns
told_what (Does x) = positions.Does x
told_what Turns = positions.Turns
told_what (Saves o) = positions.Saves o

-- a position of a section
abbrev pub told : code.Section → Position → positions.Position
told s p = record { section = s; spot = p.spot; what = told_what p.what; goal = told_goal p.goal }

-- the positions of sections, one list for each
abbrev pub all_told : List code.Section → List (List Position) → List positions.Position
all_told [] pss = []
all_told (s ∷ ss) [] = []
all_told (s ∷ ss) (ps ∷ pss) = map (told s) ps ++ all_told ss pss

abbrev pub listed : Vec Position Global → List Position
listed v = v.items

-- the number of the first position of each section
abbrev pub firsts_from : Known → ℕ → List code.Section → List ℕ
firsts_from k at [] = []
firsts_from k at (s ∷ ss) = at ∷ firsts_from k (at + length (positions.section_positions k at s)) ss
