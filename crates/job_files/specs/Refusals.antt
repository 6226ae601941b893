-- Why what the files of a job hold is refused, with the exit status and the line of each refusal.
use Rattle.std.specs.Prelude.{ℕ, ℤ, ◌++◌, codes, decimal, string_bytes}
use Rattle.std.specs.Fmt.{signed_decimal}
use Rattle.base_io.specs.Digits.{hex_word}
use Rattle.base_io.specs.declared.place.Place.{Place}
use Rattle.cert_rules.specs.declared.Rule.{Rule}
use Rattle.flow_graph.specs.declared.graph.OpKind.{OpKind}
use Rattle.job_files.specs.Operations.{operation_text}
use Rattle.job_files.specs.Rules.{rule_text}
use Rattle.job_files.specs.declared.refusal.BoardRefusal.TheVariants.{NotToml, Missing, OutOfRange, Extra}
use Rattle.job_files.specs.declared.refusal.ProgramRefusal.TheVariants as program
use Rattle.job_files.specs.declared.refusal.ImageRefusal.TheVariants.{BadByte, Overlap, PastEnd, Unmapped, NoEnd}
use Rattle.job_files.specs.declared.refusal.Refusal.{Refusal as CodeRefusal}
use Rattle.job_files.specs.declared.refusal.Refusal.TheVariants as refusal
use Rattle.job_files.specs.Text.{Text}
use Rattle.job_files.specs.declared.refusal.BoardRefusal.{BoardRefusal}
use Rattle.job_files.specs.declared.refusal.ImageRefusal.{ImageRefusal}
use Rattle.job_files.specs.declared.refusal.ProgramRefusal.{ProgramRefusal}

pub data Refusal : Type 0 where
  program_refused : ProgramRefusal → Place → Refusal
  form_not_built : Refusal
  board_refused : BoardRefusal → Text → Refusal
  image_refused : ImageRefusal → ℕ → Refusal
  text_refused : Text → ℕ → Refusal
  data_too_large : ℕ → ℕ → Refusal
  calls_too_deep : ℕ → ℕ → Refusal
  budget_too_small : OpKind → Place → ℕ → ℕ → Refusal
  code_too_large : ℕ → ℕ → Refusal
  certificate_refused : Rule → ℕ → ℤ → ℤ → Refusal

abbrev pub refusal_of : CodeRefusal → Refusal
refusal_of (refusal.Program fault place) = program_refused fault place
refusal_of refusal.FormNotBuilt = form_not_built
refusal_of (refusal.Board fault key) = board_refused fault (string_bytes key)
refusal_of (refusal.Image fault at) = image_refused fault at
refusal_of (refusal.Text name at) = text_refused (string_bytes name) at
refusal_of (refusal.DataTooLarge need room) = data_too_large need room
refusal_of (refusal.CallsTooDeep need room) = calls_too_deep need room
refusal_of (refusal.BudgetTooSmall op place need budget) = budget_too_small op place need budget
refusal_of (refusal.CodeTooLarge need room) = code_too_large need room
refusal_of (refusal.Certificate rule address left right) = certificate_refused rule address left right

-- the exit status
abbrev pub refusal_code : Refusal → ℕ
refusal_code (program_refused fault place) = 6
refusal_code form_not_built = 30
refusal_code (board_refused fault key) = 7
refusal_code (image_refused fault at) = 11
refusal_code (text_refused name at) = 13
refusal_code (data_too_large need room) = 9
refusal_code (calls_too_deep need room) = 9
refusal_code (budget_too_small op place need budget) = 8
refusal_code (code_too_large need room) = 10
refusal_code (certificate_refused rule address left right) = 12

-- `: FAULT KEY`; a document that isn't TOML has no key
abbrev pub board_text : BoardRefusal → Text → Text
board_text NotToml key = codes "NotToml"
board_text Missing key = codes "Missing " ++ key
board_text OutOfRange key = codes "OutOfRange " ++ key
board_text Extra key = codes "Extra " ++ key

abbrev pub image_text : ImageRefusal → Text
image_text BadByte = codes "BadByte"
image_text Overlap = codes "Overlap"
image_text PastEnd = codes "PastEnd"
image_text Unmapped = codes "Unmapped"
image_text NoEnd = codes "NoEnd"

abbrev pub program_text : ProgramRefusal → Text
program_text program.BadByte = codes "BadByte"
program_text program.BadLiteral = codes "BadLiteral"
program_text program.TooBig = codes "TooBig"
program_text program.OpenComment = codes "OpenComment"
program_text program.HashLine = codes "HashLine"
program_text program.Unexpected = codes "Unexpected"
program_text program.NotInProfile = codes "NotInProfile"
program_text program.TooDeep = codes "TooDeep"
program_text program.Unknown = codes "Unknown"
program_text program.Redeclared = codes "Redeclared"
program_text program.WrongArgs = codes "WrongArgs"
program_text program.NotConst = codes "NotConst"
program_text program.BadArray = codes "BadArray"
program_text program.BadAssign = codes "BadAssign"
program_text program.NoMain = codes "NoMain"
program_text program.Recursion = codes "Recursion"
program_text program.TooMany = codes "TooMany"
program_text program.TooManyOps = codes "TooManyOps"

-- the line
abbrev pub refusal_line : Refusal → Text
refusal_line (program_refused fault place) = codes "program refused: " ++ (program_text fault ++ (codes " at " ++ (decimal place.line ++ (codes ":" ++ (decimal place.column ++ codes "\n")))))
refusal_line form_not_built = codes "not built: program\n"
refusal_line (board_refused fault key) = codes "board refused: " ++ (board_text fault key ++ codes "\n")
refusal_line (image_refused fault at) = codes "image refused: " ++ (image_text fault ++ (codes " at " ++ (decimal at ++ codes "\n")))
refusal_line (text_refused name at) = codes "text refused: " ++ (name ++ (codes " at " ++ (decimal at ++ codes "\n")))
refusal_line (data_too_large need room) = codes "data too large: " ++ (decimal need ++ (codes " of " ++ (decimal room ++ codes "\n")))
refusal_line (calls_too_deep need room) = codes "calls too deep: " ++ (decimal need ++ (codes " of " ++ (decimal room ++ codes "\n")))
refusal_line (budget_too_small op place need budget) =
    codes "budget too small: " ++ (operation_text op ++ (codes " at " ++ (decimal place.line ++ (codes ":" ++ (decimal place.column ++ (codes " needs " ++ (decimal need ++ (codes " of " ++ (decimal budget ++ codes "\n")))))))))
refusal_line (code_too_large need room) = codes "code too large: " ++ (decimal need ++ (codes " of " ++ (decimal room ++ codes "\n")))
refusal_line (certificate_refused rule address left right) =
    codes "certificate refused: " ++ (rule_text rule ++ (codes " at " ++ (hex_word address ++ (codes ": " ++ (signed_decimal left ++ (codes " against " ++ (signed_decimal right ++ codes "\n")))))))
