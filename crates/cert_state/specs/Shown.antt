-- What the rules answer, as values of the program.
use Rattle.std.specs.Prelude.{ℕ, ◌+◌, nat_le, Bool, ◌&&◌, List, map, Option}
use Rattle.std.specs.Option.{option_map}
use Rattle.ti_txt.specs.declared.image.Segment.{Segment}
use Rattle.ti_txt.specs.Image.{Block, block_of}
use Rattle.certificate.specs.declared.cert.FunctionRow.{FunctionRow}
use Rattle.certificate.specs.Rows.{Function, function_of}
use Rattle.cert_rules.specs.Faults as rules
use Rattle.cert_rules.specs.Words.{head_bytes}
use Rattle.cert_rules.specs.Tables.{is_split}
use Rattle.cert_state.specs.declared.fault.Fault.{Fault}

abbrev pub fault_of : Fault → rules.Fault
fault_of f = record { rule = f.rule; address = f.address; left = f.left; right = f.right }

abbrev pub shown_fault : Option Fault → Option rules.Fault
shown_fault o = option_map fault_of o

-- segments and rows, without where they lie in the program's own memory
abbrev pub blocks_in : List Segment → List Block
blocks_in segments = map block_of segments

abbrev pub functions_in : List FunctionRow → List Function
functions_in functions = map function_of functions

-- a head at this address would lie whole in the function, which has heads
abbrev pub may_hold : ℕ → Function → Bool
may_hold h f = is_split f && nat_le f.start h && nat_le (h + head_bytes) f.end
