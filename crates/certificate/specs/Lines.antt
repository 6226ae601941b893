-- The rows that lines spell, and which may follow which.
use Rattle.std.specs.Prelude.{ℕ, ◌&&◌, List, Option, Some, None, option_map, option_and_then, if◌then◌else◌, codes}
use Rattle.std.specs.Str.{bytes_eq}
use Rattle.certificate.specs.declared.cert.StretchRow.{StretchRow}
use Rattle.certificate.specs.Rows.{Flat, Function, Point}
use Rattle.certificate.specs.Grammar.{all_fresh, all_have_facts}
use Rattle.certificate.specs.Fields.{after_mark, before_mark, facts_field, number_of, spans_field, word_of}
use Rattle.certificate.specs.Sums.{spent_field}

-- the fields of a text: the first, and what stands behind its blank
abbrev pub field : List ℕ → List ℕ
field text = before_mark 32 text

abbrev pub rest : List ℕ → List ℕ
rest text = after_mark 32 text

-- HEAD CHAIN TURNS COST
abbrev pub stretch_in : List ℕ → Option StretchRow
stretch_in text =
    option_and_then (λ head. option_and_then (λ chain. option_and_then (λ turns. option_map (λ cost.
    record { head = head; chain = chain; turns = turns; cost = cost })
    (number_of (rest (rest (rest text))))) (number_of (field (rest (rest text))))) (number_of (field (rest text)))) (word_of (field text))

-- COST WRITES
abbrev pub flat_in : List ℕ → Option Flat
flat_in text = option_and_then (λ cost. option_map (λ writes. record { cost = cost; writes = writes }) (spans_field (rest text))) (number_of (field text))

-- `split`, or `flat`, COST and WRITES
abbrev pub kind_in : List ℕ → Option (Option Flat)
kind_in text = if bytes_eq text (codes "split") then Some None
    else (if bytes_eq (field text) (codes "flat") then option_map (λ f. Some f) (flat_in (rest text)) else None)

-- START END HEIGHT, and the kind
abbrev pub function_in : List ℕ → Option Function
function_in text =
    option_and_then (λ start. option_and_then (λ end. option_and_then (λ height. option_map (λ flat.
    record { start = start; end = end; height = height; flat = flat })
    (kind_in (rest (rest (rest text))))) (number_of (field (rest (rest text))))) (word_of (field (rest text)))) (word_of (field text))

abbrev pub good_point : Point → Option Point
good_point p = if all_have_facts p.facts p.spent.terms && all_fresh p.fresh p.facts then Some p else None

-- ADDRESS STRETCH SPENT FACTS FRESH
abbrev pub point_in : List ℕ → Option Point
point_in text =
    option_and_then (λ address. option_and_then (λ stretch. option_and_then (λ spent. option_and_then (λ facts. option_and_then (λ fresh.
    good_point (record { address = address; stretch = stretch; spent = spent; facts = facts; fresh = fresh }))
    (spans_field (rest (rest (rest (rest text)))))) (facts_field (field (rest (rest (rest text))))))
    (spent_field (field (rest (rest text))))) (word_of (field (rest text)))) (word_of (field text))
