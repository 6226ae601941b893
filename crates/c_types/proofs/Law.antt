-- What was found of a tree that was read gives a program that is sound and in scope.
use Rattle.std.proofs.Common.{◌≡◌, sym, subst, ◌<◌, ◌^◌, Result, Ok, Err, IfOk}
use Rattle.c_parse.specs.declared.raw.Raw.{Raw}
use Rattle.c_tree.specs.declared.tree.Program.{Program}
use Rattle.c_typing.specs.declared.state.State.{State}
use Rattle.c_typing.specs.declared.type_fault.TypeFault.{TypeFault}
use Rattle.c_typing.specs.Programs.{IsTyped, found}
use Rattle.sound_programs.specs.SoundPrograms.{IsSound}
use Rattle.sound_programs.specs.Scoped.{IsScoped}
use Rattle.accepted_programs.specs.Texts.{IsRead}
use Rattle.accepted_programs.proofs.Read.{accepted}

of_found : (raw : Raw) (s : State) (p : Program) → IsRead raw → s ≡ found raw → s.nodes < 2 ^ 29 → IsTyped s p → IsSound p × IsScoped p
of_found raw s p read is few typed = accepted raw p read (subst (λ (z : State). z.nodes < 2 ^ 29) is few) (subst (λ z. IsTyped z p) is typed)

pub sound_found : (raw : Raw) (s : State) (r : Result Program TypeFault) → IsRead raw → s ≡ found raw → s.nodes < 2 ^ 29 → IfOk r (λ p. IsTyped s p) → IfOk r (λ p. IsSound p)
sound_found raw s (Ok p) read is few typed = (of_found raw s p read is few typed).0
sound_found raw s (Err fault) read is few typed = tt

pub scoped_found : (raw : Raw) (s : State) (r : Result Program TypeFault) → IsRead raw → s ≡ found raw → s.nodes < 2 ^ 29 → IfOk r (λ p. IsTyped s p) → IfOk r (λ p. IsScoped p)
scoped_found raw s (Ok p) read is few typed = (of_found raw s p read is few typed).1
scoped_found raw s (Err fault) read is few typed = tt
