use Rattle.emit_templates.proofs.GraphLemmas as lemmas
use Rattle.emit_templates.proofs.laws.effects_are_the_graphs.Goals as goal

pub returns : goal.returns
returns c = lemmas.effects_are_the_graphs
