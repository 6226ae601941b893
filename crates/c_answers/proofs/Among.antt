-- Calls among so many functions.
use Rattle.std.proofs.Common.{ℕ, ◌<◌, List, ◌∷◌, All}
use Rattle.std.proofs.lemmas.List.Elements.{All-cons}
use Rattle.c_typing.specs.declared.call_site.CallSite.{CallSite}
use Rattle.c_typing.specs.Cycles.{AreAmong}

pub among_more : (m : ℕ) (call : CallSite) (calls : List CallSite) → call.caller < m → call.callee < m → AreAmong m calls → AreAmong m (call ∷ calls)
among_more m call calls h g others = All-cons (λ (c : CallSite). (c.caller < m) × (c.callee < m)) call calls (h, g) others
