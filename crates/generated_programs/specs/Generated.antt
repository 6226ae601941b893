-- The text of a program that is made from a number.
use Rattle.std.specs.Prelude.{ℕ, zero, suc, ◌+◌, ◌*◌, ◌/◌, ◌%◌, ◌++◌, List, [], codes, decimal}

abbrev pub Text : Type 0
Text = List ℕ

-- the number that follows: a draw
abbrev pub next : ℕ → ℕ
next x = (25173 * x + 13849) % 65536

-- which of the variables v0 to v7 a draw names
abbrev pub variable_in : ℕ → ℕ
variable_in draw = draw / 16 % 8

abbrev pub count_in : ℕ → ℕ
count_in draw = draw % 64

-- ---- statements

-- a variable becomes another one and a number
abbrev pub adds : ℕ → ℕ → ℕ → Text
adds d s c = codes "v" ++ (decimal d ++ (codes "=v" ++ (decimal s ++ (codes "+" ++ (decimal c ++ codes "u;\n")))))

-- becomes itself and another one, bit by bit
abbrev pub flips : ℕ → ℕ → Text
flips d s = codes "v" ++ (decimal d ++ (codes "=v" ++ (decimal d ++ (codes "^v" ++ (decimal s ++ codes ";\n")))))

-- becomes a number, where it is less than another one
abbrev pub sets : ℕ → ℕ → ℕ → Text
sets d s c = codes "if(v" ++ (decimal d ++ (codes "<v" ++ (decimal s ++ (codes ")v" ++ (decimal d ++ (codes "=" ++ (decimal c ++ codes "u;\n")))))))

-- another one is added so many times
abbrev pub repeats : ℕ → ℕ → ℕ → Text
repeats d s m =
    codes "for(int i=0;i<" ++ (decimal m ++ (codes ";i++)v" ++ (decimal d ++ (codes "=v" ++ (decimal d ++ (codes "+v" ++ (decimal s ++ codes ";\n")))))))

abbrev pub by_kind : ℕ → ℕ → ℕ → ℕ → Text
by_kind zero d s c = adds d s c
by_kind (suc zero) d s c = flips d s
by_kind (suc (suc zero)) d s c = sets d s c
by_kind (suc (suc (suc n))) d s c = repeats d s (1 + c % 16)

-- the statement that three draws make
abbrev pub statement : ℕ → ℕ → ℕ → Text
statement p q r = by_kind (p / 64 % 4) (variable_in q) (variable_in r) (count_in p)

-- so many statements, of which each takes the next three draws
abbrev pub statements : ℕ → ℕ → Text
statements zero x = []
statements (suc n) x = statement (next x) (next (next x)) (next (next (next x))) ++ statements n (next (next (next x)))

-- ---- the whole

-- each variable is declared, with its number as its value
abbrev pub beginning : Text
beginning = codes "unsigned int v0=0u;\nunsigned int v1=1u;\nunsigned int v2=2u;\nunsigned int v3=3u;\nunsigned int v4=4u;\nunsigned int v5=5u;\nunsigned int v6=6u;\nunsigned int v7=7u;\nint main(void)\n{\n"

-- and is put at the end
abbrev pub end : Text
end = codes "out(v0);\nout(v1);\nout(v2);\nout(v3);\nout(v4);\nout(v5);\nout(v6);\nout(v7);\nreturn 0;\n}\n"

abbrev pub generated : ℕ → ℕ → Text
generated seed size = beginning ++ statements size seed ++ end
