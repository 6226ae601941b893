-- The rules on calls, run: an image that calls a flat function, which puts 7, and a split one, and ends; with its certificate, and
-- with a cost that leaves out one unit of what the callee costs.
use Rattle.std.proofs.Common.{ℕ, Some, None, true, false, List, [], ◌∷◌, refl, arith}
use Rattle.std.specs.Prelude.{pos}
use Rattle.board_table.specs.declared.board.Board.{Board}
use Rattle.ti_txt.specs.Image.{Block}
use Rattle.certificate.specs.Rows.{Function, Certificate}
use Rattle.cert_rules.specs.declared.Rule.TheVariants.{Limit}
use Rattle.cert_rules.specs.Faults.{Fault}
use Rattle.cert_rules.specs.Known.{bare}
use Rattle.cert_rules.specs.Sweep.{Swept, end, head, fails, step, done, fault, next, Verdict, Certified, sheet}

abbrev board : Board
board = record {
  budget = 2000;
  core = record { move_ = 1; alu = 1; one = 1; push = 2; call = 3; jump = 2; move_range = (omega arith, omega arith); alu_range = (omega arith, omega arith); one_range = (omega arith, omega arith); push_range = (omega arith, omega arith); call_range = (omega arith, omega arith); jump_range = (omega arith, omega arith) };
  access = record { fetch = 2; sram_read = 1; sram_write = 1; fram_read = 2; fram_write = 3; port_read = 2; port_write = 2; fetch_range = omega arith; sram_read_range = omega arith; sram_write_range = omega arith; fram_read_range = omega arith; fram_write_range = omega arith; port_read_range = omega arith; port_write_range = omega arith };
  budget_range = (omega arith, omega arith);
}

abbrev blocks : List Block
blocks =
    record { start = 0x1800; bytes = 0x01 ∷ 0x00 ∷ 0x24 ∷ 0x80 ∷ 0x00 ∷ 0x80 ∷ [] }
    ∷ record { start = 0x8000; bytes = 0x92 ∷ 0x93 ∷ 0x00 ∷ 0x18 ∷ 0x04 ∷ 0x20 ∷ 0x11 ∷ 0x42 ∷ 0x04 ∷ 0x18 ∷ 0x10 ∷ 0x42 ∷ 0x02 ∷ 0x18 ∷ 0xA2 ∷ 0x42 ∷ 0x06 ∷ 0x0F ∷ 0x82 ∷ 0x41 ∷ 0x04 ∷ 0x18 ∷ 0xB2 ∷ 0x40 ∷ 0x24 ∷ 0x80 ∷ 0x02 ∷ 0x18 ∷ 0x92 ∷ 0x43 ∷ 0x00 ∷ 0x18 ∷ 0x32 ∷ 0xD0 ∷ 0x10 ∷ 0x00 ∷ 0x82 ∷ 0x43 ∷ 0x00 ∷ 0x18 ∷ 0xB0 ∷ 0x12 ∷ 0x4C ∷ 0x80 ∷ 0xB0 ∷ 0x12 ∷ 0x56 ∷ 0x80 ∷ 0x82 ∷ 0x41 ∷ 0x04 ∷ 0x18 ∷ 0xB2 ∷ 0x40 ∷ 0x42 ∷ 0x80 ∷ 0x02 ∷ 0x18 ∷ 0x92 ∷ 0x43 ∷ 0x00 ∷ 0x18 ∷ 0x32 ∷ 0xD0 ∷ 0x10 ∷ 0x00 ∷ 0x82 ∷ 0x43 ∷ 0x00 ∷ 0x18 ∷ 0x0F ∷ 0x43 ∷ 0x82 ∷ 0x4F ∷ 0x04 ∷ 0x0F ∷ 0x3F ∷ 0x40 ∷ 0x07 ∷ 0x00 ∷ 0x82 ∷ 0x4F ∷ 0x02 ∷ 0x0F ∷ 0x30 ∷ 0x41 ∷ 0x82 ∷ 0x41 ∷ 0x04 ∷ 0x18 ∷ 0xB2 ∷ 0x40 ∷ 0x68 ∷ 0x80 ∷ 0x02 ∷ 0x18 ∷ 0x92 ∷ 0x43 ∷ 0x00 ∷ 0x18 ∷ 0x32 ∷ 0xD0 ∷ 0x10 ∷ 0x00 ∷ 0x82 ∷ 0x43 ∷ 0x00 ∷ 0x18 ∷ 0x30 ∷ 0x41 ∷ [] }
    ∷ record { start = 0xFFFE; bytes = 0x00 ∷ 0x80 ∷ [] }
    ∷ []

-- HEAD; CALL #putting; CALL #sleeping; HEAD; MOV #0,R15; MOV R15,&END
abbrev main : Function
main = record { start = 0x8012; end = 0x804C; height = 2; flat = None }

-- MOV #7,R15; MOV R15,&OUT; MOV @SP+,PC
abbrev putting : Function
putting = record { start = 0x804C; end = 0x8056; height = 1; flat = Some (record { cost = 17; writes = [] }) }

-- HEAD; MOV @SP+,PC
abbrev sleeping : Function
sleeping = record { start = 0x8056; end = 0x806E; height = 1; flat = None }

abbrev costing : ℕ → Certificate
costing n = record {
  budget = 2000;
  functions = main ∷ putting ∷ sleeping ∷ [];
  stretches = record { head = 0x8012; chain = 1; turns = 0; cost = n } ∷ record { head = 0x8030; chain = 2; turns = 0; cost = 43 } ∷ record { head = 0x8056; chain = 3; turns = 0; cost = 69 } ∷ [];
  points = [];
}

main_swept : Swept (sheet blocks (costing 101) board true main) 0x8012 None None
main_swept = head 0x8012 None None (omega arith) refl refl
    (step 0x8028 _ None (omega arith) refl refl
    (step 0x802C _ None (omega arith) refl refl
    (head 0x8030 _ None (omega arith) refl refl
    (step 0x8046 _ None (omega arith) refl refl
    (step 0x8048 _ None (omega arith) refl refl
    (end 0x804C _ (omega arith)))))))

putting_swept : Swept (sheet blocks (costing 101) board false putting) 0x804C (Some (bare 0x804C 0)) None
putting_swept = step 0x804C _ None (omega arith) refl refl
    (step 0x8050 _ None (omega arith) refl refl
    (step 0x8054 _ None (omega arith) refl refl
    (end 0x8056 _ (omega arith))))

sleeping_swept : Swept (sheet blocks (costing 101) board false sleeping) 0x8056 None None
sleeping_swept = head 0x8056 None None (omega arith) refl refl
    (step 0x806C _ None (omega arith) refl refl
    (end 0x806E _ (omega arith)))

pub certified : Certified blocks (costing 101) board
certified = record {
  sweep = None;
  swept =
      next true main (putting ∷ sleeping ∷ []) None (record { rest = None; swept = main_swept; is = refl })
      (next false putting (sleeping ∷ []) None (record { rest = None; swept = putting_swept; is = refl })
      (next false sleeping [] None (record { rest = None; swept = sleeping_swept; is = refl }) (done false)));
  is = refl;
}

pub limit : Fault
limit = record { rule = Limit; address = 0x802C; left = pos 101; right = pos 100 }

low_swept : Swept (sheet blocks (costing 100) board true main) 0x8012 None (Some limit)
unfolding limit
low_swept = head 0x8012 None (Some limit) (omega arith) refl refl
    (step 0x8028 _ (Some limit) (omega arith) refl refl
    (fails 0x802C _ limit (omega arith) refl refl))

pub refused : Verdict blocks (costing 100) board (Some limit)
unfolding limit
refused = record {
  sweep = Some limit;
  swept = fault true main (putting ∷ sleeping ∷ []) limit (record { rest = Some limit; swept = low_swept; is = refl });
  is = refl;
}
