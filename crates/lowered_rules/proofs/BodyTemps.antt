-- A body takes as many temporaries as were counted for it, and calls and declares the same, wherever its objects stand.
use Rattle.std.proofs.Common.{◌≡◌, ℕ, ◌+◌, sym, arith}
use Rattle.c_tree.specs.declared.tree.Function.{Function}
use Rattle.c_tree.specs.declared.tree.Program.{Program}
use Rattle.sound_programs.specs.Scoped.{locals}
use Rattle.lowered_graphs.specs.declared.homes.Homes.{Homes}
use Rattle.lowered_graphs.specs.Stmts.{lowered_stmt}
use Rattle.lowered_graphs.specs.GraphOf.{within_of, no_homes, temporaries, made_function, function_callees}
use Rattle.std.specs.Prelude.{◌==◌}
use Rattle.lowered_rules.proofs.StmtTemps.{alike_stmt, alike_body}
use Rattle.lowered_rules.proofs.StmtTold.{locals_same}

pub body_temps : (p : Program) (homes : Homes) (n op base : ℕ) (f : Function) → (made_function p homes n op base f).counts.temp ≡ base + temporaries p n f
body_temps p homes n op base f =
    let start : base ≡ base + 0 = omega arith in
    alike_body base p no_homes homes n (n == p.main) f (record { op = 0; temp = 0 }) (record { op = op; temp = base }) start

pub callees_anywhere : (p : Program) (homes : Homes) (n : ℕ) (f : Function) → (lowered_stmt (within_of p homes n) f.body).callees ≡ function_callees p n f
callees_anywhere p homes n f = sym (alike_stmt 0 p no_homes homes n (n == p.main) f.body).callees

pub locals_anywhere : (p : Program) (homes : Homes) (n : ℕ) (f : Function) → (lowered_stmt (within_of p homes n) f.body).locals ≡ locals f.body
locals_anywhere p homes n f = locals_same (within_of p homes n) f.body
