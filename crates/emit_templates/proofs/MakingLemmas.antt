-- Code that is a template's list does its operation.
use Rattle.std.proofs.Common.{◌≡◌, ℕ, List, sym, subst}
use Rattle.msp430_isa.specs.declared.instr.Instr.{Instr}
use Rattle.flow_graph.specs.declared.graph.Op.{Op}
use Rattle.op_cost.specs.Templates.{Homes, code_of, template}
use Rattle.emit_templates.specs.Layer.{DoesOperation, RunsOperation}
use Rattle.emit_templates.proofs.Performing.{operation_performs, operation_runs}

pub does_operation : (code : List Instr) (homes : Homes) (target : ℕ) (op : Op) → code ≡ code_of (template homes target op) → DoesOperation code homes target op
does_operation code homes target op e = subst (λ c. DoesOperation c homes target op) (sym e) (operation_performs homes target op)

pub runs_operation : (code : List Instr) (homes : Homes) (target : ℕ) (op : Op) → code ≡ code_of (template homes target op) → RunsOperation code homes target op
runs_operation code homes target op e = subst (λ c. RunsOperation c homes target op) (sym e) (operation_runs homes target op)
