-- The certificate of the program that puts 7 and ends, with one head and with two.
use Rattle.std.proofs.Common.{◌≡◌, ℕ, None, true, false, Bool, List, [], ◌∷◌, refl, arith}
use Rattle.board_table.specs.declared.board.Board.{Board}
use Rattle.flow_graph.specs.declared.graph.Op.{Op}
use Rattle.flow_graph.specs.declared.graph.OpKind.{OpKind}
use Rattle.flow_graph.specs.declared.graph.OpKind.TheVariants as kind
use Rattle.flow_graph.specs.declared.graph.Operand.TheVariants.{Const}
use Rattle.cert_templates.specs.Frames.{Position, certificate_of}

abbrev board : Board
board = record {
  budget = 2000;
  core = record { move_ = 1; alu = 1; one = 1; push = 2; call = 3; jump = 2; move_range = (omega arith, omega arith); alu_range = (omega arith, omega arith); one_range = (omega arith, omega arith); push_range = (omega arith, omega arith); call_range = (omega arith, omega arith); jump_range = (omega arith, omega arith) };
  access = record { fetch = 2; sram_read = 1; sram_write = 1; fram_read = 2; fram_write = 3; port_read = 2; port_write = 2; fetch_range = omega arith; sram_read_range = omega arith; sram_write_range = omega arith; fram_read_range = omega arith; fram_write_range = omega arith; port_read_range = omega arith; port_write_range = omega arith };
  budget_range = (omega arith, omega arith);
}

abbrev op : ℕ → OpKind → ℕ → Op
op n k v = record { number = n; kind = k; dest = None; a = Const v; b = Const 0; array = None; place = record { line = 1; column = 1 } }

abbrev positions : Bool → List Position
positions second = record { op = op 0 kind.Output 7; target = 0; has_head = true } ∷ record { op = op 1 kind.Finish 0; target = 0; has_head = second } ∷ []

one_head : certificate_of board (λ o. 0x4400) (positions false) ≡ record {
  budget = 2000;
  functions = record { start = 0x8012; end = 0x8036; height = 1; flat = None } ∷ [];
  stretches = record { head = 0x8012; chain = 1; turns = 0; cost = 86 } ∷ [];
  points = [];
}
one_head = refl

two_heads : certificate_of board (λ o. 0x4400) (positions true) ≡ record {
  budget = 2000;
  functions = record { start = 0x8012; end = 0x804C; height = 1; flat = None } ∷ [];
  stretches = record { head = 0x8012; chain = 1; turns = 0; cost = 76 } ∷ record { head = 0x8030; chain = 1; turns = 0; cost = 74 } ∷ [];
  points = [];
}
two_heads = refl
