-- What the table's checks say of derivations: with which token they begin, and what may come behind their parts.
use Rattle.std.proofs.Common.{◌≡◌, ℕ, suc, List, [], ◌∷◌, ◌++◌, Option, Some, None, Bool, true, false, not, ◌&&◌, refl, sym, ap, subst, ◌∙◌, ◌+◌, arith}
use Rattle.c_parse.specs.declared.class.Class.{Class}
use Rattle.c_parse.specs.declared.raw.Raw.{Raw}
use Rattle.c_parse.specs.Grammar.{Within, Form, else_part, labelled, Symbol, token, sub, alternatives, OneOf, here, there, is_else, is_label, allows_else, allows_labels, allows, weight, Nested, ahead, Derives, leaf, node, DeriveAll, none, more}
use Rattle.c_parse.specs.Machine.{choose, nth}
use Rattle.c_parse.proofs.Beginnings.{begins, empties}
use Rattle.c_parse.proofs.Checks.{starts, vanish, comes, may_follow, parted, may_vanish, plain, agrees, tells, settled, ends_empty, fits_from, fitting}
use Rattle.c_parse.proofs.EachClass.{every_look, same_class, each_class, each_look, same_self}
use Rattle.c_parse.proofs.Stops.{stops}
use Rattle.c_parse.proofs.Truth.{implies, both_left, both_right, implied, or_first, or_second, both}

-- where an alternative stands in the table, and what was checked of it
pub record FitsAt (form : Form) (symbols : List Symbol) (n : ℕ) : Type 0 where
  pub tells_it : tells form n symbols ≡ true
  pub empty : ends_empty form n symbols ≡ true
  pub parts : parted symbols form ≡ true

pub record Placed (form : Form) (symbols : List Symbol) (list : List (List Symbol)) (k : ℕ) : Type 0 where
  pub place : ℕ
  pub number : ℕ
  pub is : number ≡ k + place
  pub at : nth list place ≡ Some symbols
  pub fit : FitsAt form symbols number

fit_first : (form : Form) (symbols : List Symbol) (others : List (List Symbol)) (k : ℕ) → fits_from form k (symbols ∷ others) ≡ true → FitsAt form symbols k
fit_first form symbols others k e =
    let e2 : (ends_empty form k symbols && (parted symbols form && fits_from form (suc k) others)) ≡ true = both_right (tells form k symbols) (ends_empty form k symbols && (parted symbols form && fits_from form (suc k) others)) e in
    let e3 : (parted symbols form && fits_from form (suc k) others) ≡ true = both_right (ends_empty form k symbols) (parted symbols form && fits_from form (suc k) others) e2 in
    record {
      tells_it = both_left (tells form k symbols) (ends_empty form k symbols && (parted symbols form && fits_from form (suc k) others)) e;
      empty = both_left (ends_empty form k symbols) (parted symbols form && fits_from form (suc k) others) e2;
      parts = both_left (parted symbols form) (fits_from form (suc k) others) e3;
    }

fit_others : (form : Form) (symbols : List Symbol) (others : List (List Symbol)) (k : ℕ) → fits_from form k (symbols ∷ others) ≡ true → fits_from form (suc k) others ≡ true
fit_others form symbols others k e =
    let e2 : (ends_empty form k symbols && (parted symbols form && fits_from form (suc k) others)) ≡ true = both_right (tells form k symbols) (ends_empty form k symbols && (parted symbols form && fits_from form (suc k) others)) e in
    let e3 : (parted symbols form && fits_from form (suc k) others) ≡ true = both_right (ends_empty form k symbols) (parted symbols form && fits_from form (suc k) others) e2 in
    both_right (parted symbols form) (fits_from form (suc k) others) e3

place_in : (form : Form) (symbols : List Symbol) (list : List (List Symbol)) (k : ℕ) → fits_from form k list ≡ true → OneOf symbols list → Placed form symbols list k
place_in form symbols _ k e (here others) =
    let f : FitsAt form symbols k = fit_first form symbols others k e in
    let q : k ≡ k + 0 = omega arith in
    record { place = 0; number = k; is = q; at = refl; fit = f }
place_in form symbols _ k e (there other others one) =
    let r : Placed form symbols others (suc k) = place_in form symbols others (suc k) (fit_others form other others k e) one in
    let q : r.number ≡ suc k + r.place = r.is in
    let q2 : r.number ≡ k + suc r.place = omega arith in
    record { place = suc r.place; number = r.number; is = q2; at = r.at; fit = r.fit }

pub record Listed (form : Form) (symbols : List Symbol) : Type 0 where
  pub n : ℕ
  pub at : nth (alternatives form) n ≡ Some symbols
  pub fit : FitsAt form symbols n

pub listed : (form : Form) (symbols : List Symbol) → OneOf symbols (alternatives form) → Listed form symbols
listed form symbols one =
    let r : Placed form symbols (alternatives form) 0 = place_in form symbols (alternatives form) 0 (fitting form) one in
    let same : r.number ≡ r.place = let q : r.number ≡ 0 + r.place = r.is in omega arith in
    record { n = r.place; at = r.at; fit = subst (FitsAt form symbols) same r.fit }

abbrev pub symbol_begins : Symbol → Class → Bool
symbol_begins (token other) class = same_class other class
symbol_begins (sub form) class = begins form class

abbrev pub symbol_empties : Symbol → Bool
symbol_empties (token _) = false
symbol_empties (sub form) = empties form

abbrev pub Begun : Symbol → List Nested → Type 0
Begun symbol [] = symbol_empties symbol ≡ true
Begun symbol (word ∷ _) = symbol_begins symbol word.class ≡ true

abbrev pub Leads : List Symbol → List Nested → Type 0
Leads ss [] = vanish ss ≡ true
Leads ss (word ∷ _) = starts ss word.class ≡ true

pub lead_more : (symbol : Symbol) (ss : List Symbol) (front rest : List Nested) → Begun symbol front → Leads ss rest → Leads (symbol ∷ ss) (front ++ rest)
lead_more (token c) ss [] rest b l = cc
lead_more (sub form) ss [] [] b l = both (empties form) (vanish ss) b l
lead_more (sub form) ss [] (word ∷ rest) b l = or_second (begins form word.class) (empties form && starts ss word.class) (both (empties form) (starts ss word.class) b l)
lead_more (token c) ss (word ∷ front) rest b l = b
lead_more (sub form) ss (word ∷ front) rest b l = or_first (begins form word.class) (empties form && starts ss word.class) b

pub told_at : (form : Form) (ss : List Symbol) (n : ℕ) (word : Nested) → FitsAt form ss n → starts ss word.class ≡ true → (begins form word.class && agrees (plain ss) form n (choose form (Some word.class))) ≡ true
told_at form ss n word f l =
    implied (starts ss word.class) (begins form word.class && agrees (plain ss) form n (choose form (Some word.class)))
    (each_class (λ class. implies (starts ss class) (begins form class && agrees (plain ss) form n (choose form (Some class)))) f.tells_it word.class) l

begun_by : (form : Form) (ss : List Symbol) (words : List Nested) → Listed form ss → Leads ss words → Begun (sub form) words
begun_by form ss [] f l = both_left (empties form) _ (implied (vanish ss) _ f.fit.empty l)
begun_by form ss (word ∷ ts) f l = both_left (begins form word.class) (agrees (plain ss) form f.n (choose form (Some word.class))) (told_at form ss f.n word f.fit l)

mutual
  pub begun_so : (depth : ℕ) (symbol : Symbol) (raws : List Raw) (words : List Nested) (next : Option Class) → Derives depth symbol raws words next → Begun symbol words
  begun_so _ _ _ _ _ (leaf depth class word next is deep) = ap (same_class class) is ∙ same_self class
  begun_so _ _ _ _ _ (node depth form ss parts raws words next one ok made all) = begun_by form ss words (listed form ss one) (leads_so (depth + weight form) ss parts words next all)

  pub leads_so : (depth : ℕ) (ss : List Symbol) (parts : List Raw) (words : List Nested) (next : Option Class) → DeriveAll depth ss parts words next → Leads ss words
  leads_so _ _ _ _ _ (none depth next) = refl
  leads_so _ _ _ _ _ (more depth symbol ss raws parts all front rest words next first others e1 e2) =
      let P : List Nested → Type 0 = λ t. Leads (symbol ∷ ss) t in
      subst P (sym e2) (lead_more symbol ss front rest (begun_so depth symbol raws front (ahead rest next) first) (leads_so depth ss parts rest next others))

pub come_of : (ss : List Symbol) (form : Form) (words : List Nested) (next : Option Class) → Leads ss words → stops form next ≡ true → comes ss form (ahead words next) ≡ true
come_of ss form [] None l s = both (vanish ss) (stops form None) l s
come_of ss form [] (Some k) l s = or_second (starts ss k) (vanish ss && stops form (Some k)) (both (vanish ss) (stops form (Some k)) l s)
come_of ss form (word ∷ ts) next l s = or_first (starts ss word.class) (vanish ss && stops form (Some word.class)) l

-- What follows a part may follow it.
pub part_follows : (symbol : Symbol) (ss : List Symbol) (form : Form) (rest : List Nested) (next : Option Class) → parted (symbol ∷ ss) form ≡ true → Leads ss rest → stops form next ≡ true
    → may_follow symbol (ahead rest next) ≡ true
part_follows symbol ss form rest next p l s =
    implied (comes ss form (ahead rest next)) (may_follow symbol (ahead rest next))
    (each_look (λ look. implies (comes ss form look) (may_follow symbol look)) (both_left (every_look (λ look. implies (comes ss form look) (may_follow symbol look))) (parted ss form) p) (ahead rest next))
    (come_of ss form rest next l s)

else_vanish : (within : Within) (ss : List Symbol) (next : Option Class) → OneOf ss (alternatives (else_part within)) → vanish ss ≡ true → allows_else ss next ≡ true → not (is_else next) ≡ true
else_vanish within _ next (here _) v ok = ok
else_vanish within _ next (there _ _ (here _)) v ok = cc
else_vanish within _ next (there _ _ (there _ _ x)) v ok = elim x [ ]

labels_vanish : (within : Within) (ss : List Symbol) (next : Option Class) → OneOf ss (alternatives (labelled within)) → vanish ss ≡ true → allows_labels ss next ≡ true → not (is_label next) ≡ true
labels_vanish within _ next (here _) v ok = ok
labels_vanish within _ next (there _ _ (here _)) v ok = cc
labels_vanish within _ next (there _ _ (there _ _ (here _))) v ok = cc
labels_vanish within _ next (there _ _ (there _ _ (there _ _ x))) v ok = elim x [ ]

pub vanishes : (form : Form) (ss : List Symbol) (parts : List Raw) (next : Option Class) → OneOf ss (alternatives form) → vanish ss ≡ true → allows form ss parts next ≡ true → may_vanish form next ≡ true
vanishes (else_part within) ss parts next one v ok = else_vanish within ss next one v ok
vanishes (labelled within) ss parts next one v ok = labels_vanish within ss next one v ok
vanishes _ ss parts next one v ok = refl

-- The choice where a form reads nothing.
pub told_empty : (form : Form) (ss : List Symbol) (parts : List Raw) (n : ℕ) (next : Option Class) → FitsAt form ss n → OneOf ss (alternatives form) → allows form ss parts next ≡ true → vanish ss ≡ true → stops form next ≡ true
    → (settled (choose form next) && agrees (plain ss) form n (choose form next)) ≡ true
told_empty form ss parts n next f one ok v s =
    let test : Option Class → Bool = λ look. implies (stops form look && may_vanish form look) (settled (choose form look) && agrees (plain ss) form n (choose form look)) in
    implied (stops form next && may_vanish form next) (settled (choose form next) && agrees (plain ss) form n (choose form next))
    (each_look test (both_right (empties form) (every_look test) (implied (vanish ss) _ f.empty v)) next)
    (both (stops form next) (may_vanish form next) s (vanishes form ss parts next one v ok))
