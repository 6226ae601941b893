-- The code of a template as the program has it: each instruction with how often its cost is counted.
use Rattle.std.specs.Prelude.{ℕ, ◌+◌, ◌-◌, ◌&&◌, nat_le, nat_lt, if◌then◌else◌, List, [], ◌∷◌, map}
use Rattle.msp430_isa.specs.declared.instr.Instr.{Instr}
use Rattle.flow_graph.specs.declared.graph.OpKind.{OpKind}
use Rattle.flow_graph.specs.declared.graph.OpKind.TheVariants as kind
use Rattle.op_cost.specs.Templates.{Counted}
use Rattle.emit_certs.specs.declared.code.Timed.{Timed}

abbrev pub counted : Timed → Counted
counted t = record { instr = t.instr; times = t.times }

abbrev pub code_in : List Timed → List Counted
code_in code = map counted code

-- how often the instruction of this number counts, where so many from the first on are a loop of so many turns
abbrev pub looped : (first instructions turns index : ℕ) → ℕ
looped first instructions turns index = if nat_le first index && nat_lt (index - first) instructions then turns else 1

-- the same of the template of each kind
abbrev pub times_in : OpKind → ℕ → ℕ
times_in kind.Mul index = looped 4 7 16 index
times_in kind.DivU index = looped 7 9 16 index
times_in kind.RemU index = looped 7 9 16 index
times_in kind.DivS index = looped 17 9 16 index
times_in kind.RemS index = looped 16 9 16 index
times_in kind.Shl index = looped 7 3 15 index
times_in kind.ShrS index = looped 7 3 15 index
times_in kind.ShrU index = looped 7 4 15 index
times_in _ index = 1

-- instructions of the template of a kind, from the one with this number on
abbrev pub timed_from : OpKind → ℕ → List Instr → List Counted
timed_from k n [] = []
timed_from k n (i ∷ is) = record { instr = i; times = times_in k n } ∷ timed_from k (n + 1) is
