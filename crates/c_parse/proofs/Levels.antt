-- How deep the next token stands, by what is waited for.
use Rattle.std.proofs.Common.{◌≡◌, ◌≤◌, List, [], ◌∷◌, length, ◌+◌, arith}
use Rattle.c_parse.specs.declared.form.Wait.{Wait}
use Rattle.c_parse.specs.Grammar.{Form, statement, subscripted, chosen, operand, cast_type, grouped, passed, Symbol, weight}
use Rattle.c_parse.specs.Machine.{want, close, undecided, judged, wants, level}
use Rattle.c_parse.proofs.Sound.{level_wants}

pub weight_one : (form : Form) → weight form ≤ 1
weight_one (statement _) = omega arith
weight_one operand = omega arith
weight_one grouped = omega arith
weight_one subscripted = omega arith
weight_one passed = omega arith
weight_one cast_type = omega arith
weight_one chosen = omega arith
weight_one _ = omega arith

pub level_length : (c : List Wait) → level c ≤ length c
level_length [] = omega arith
level_length (want symbol ∷ c) = let le : level c ≤ length c = level_length c in omega arith
level_length (close form ∷ c) = let le : level c ≤ length c = level_length c in let one : weight form ≤ 1 = weight_one form in omega arith
level_length (undecided delay ∷ c) = let le : level c ≤ length c = level_length c in omega arith
level_length (judged late ∷ c) = let le : level c ≤ length c = level_length c in omega arith

-- the symbols of a form that has begun
pub level_within : (form : Form) (ss : List Symbol) (c : List Wait) → level (wants ss (close form ∷ c)) ≡ level c + weight form
level_within form ss c = level_wants ss (close form ∷ c)
