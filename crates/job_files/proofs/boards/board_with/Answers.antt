use Rattle.job_files.proofs.boards.board_with.Goals as goal

pub returns : goal.returns
returns c = record {
  own = c.in_ok-board.board;
  is_board = c.in_ok-board.ensures;
  budget = c.with_budget.ensures.budget;
  core = c.with_budget.ensures.core;
  access = c.with_budget.ensures.access;
}
