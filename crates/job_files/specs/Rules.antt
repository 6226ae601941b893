-- The names of the rules of certificates.
use Rattle.std.specs.Prelude.{codes}
use Rattle.cert_rules.specs.declared.Rule.{Rule}
use Rattle.cert_rules.specs.declared.Rule.TheVariants as rule
use Rattle.job_files.specs.Text.{Text}

abbrev pub rule_text : Rule → Text
rule_text rule.Board = codes "Board"
rule_text rule.Boot = codes "Boot"
rule_text rule.Order = codes "Order"
rule_text rule.Head = codes "Head"
rule_text rule.Budget = codes "Budget"
rule_text rule.Gap = codes "Gap"
rule_text rule.Turns = codes "Turns"
rule_text rule.Form = codes "Form"
rule_text rule.Set = codes "Set"
rule_text rule.Place = codes "Place"
rule_text rule.Fresh = codes "Fresh"
rule_text rule.Writes = codes "Writes"
rule_text rule.Keep = codes "Keep"
rule_text rule.Call = codes "Call"
rule_text rule.Limit = codes "Limit"
rule_text rule.Edge = codes "Edge"
rule_text rule.Stretch = codes "Stretch"
rule_text rule.Range = codes "Range"
rule_text rule.Spent = codes "Spent"
