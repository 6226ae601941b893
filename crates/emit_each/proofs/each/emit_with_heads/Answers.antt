use Rattle.std.proofs.Common.{refl, ap, ◌∙◌, arith}
use Rattle.emit_each.specs.Parts.{addresses_from, head_in}
use Rattle.emit_each.proofs.Same.{allowed, end_words, have, image_with, laid_image, low, roomy}
use Rattle.emit_each.proofs.each.emit_with_heads.Goals as goal

pub starts_of-requires-clause-have : goal.starts_of-requires-clause-have
starts_of-requires-clause-have c =
    have c.args.g.now c.in-Ok.places.of.items (c.in-Ok.ensures ∙ ap (λ xs. addresses_from 0x4400 xs) c.as_slice-objects.ensures) c.requires.rules (head_in c.args.heads.now) c.args.nodes.now c.requires.nodes

pub returns-then-starts-gt-MOST_WORDS-clause-refused : goal.returns-then-starts-gt-MOST_WORDS-clause-refused
returns-then-starts-gt-MOST_WORDS-clause-refused c =
    let words = end_words c.args.g.now c.in-Ok.places.of.items (c.in-Ok.ensures ∙ ap (λ xs. addresses_from 0x4400 xs) c.as_slice-objects.ensures) c.requires.rules (head_in c.args.heads.now) c.args.nodes.now c.requires.nodes
    c.in-Ok-starts_of.starts.of.items c.in-Ok-starts_of.starts.end c.in-Ok-starts_of.ensures.starts c.in-Ok-starts_of.ensures.end in
    (omega (arith, words), omega (arith, words), refl)

pub image_of-requires-clause-have : goal.image_of-requires-clause-have
image_of-requires-clause-have c =
    have c.args.g.now c.in-Ok.places.of.items (c.in-Ok.ensures ∙ ap (λ xs. addresses_from 0x4400 xs) c.as_slice-objects.ensures) c.requires.rules (head_in c.args.heads.now) c.args.nodes.now c.requires.nodes

pub image_of-requires-clause-allowed : goal.image_of-requires-clause-allowed
image_of-requires-clause-allowed c =
    allowed c.args.g.now c.in-Ok.places.of.items (c.in-Ok.ensures ∙ ap (λ xs. addresses_from 0x4400 xs) c.as_slice-objects.ensures) c.requires.rules (head_in c.args.heads.now) c.args.nodes.now c.requires.nodes
    c.in-Ok-starts_of.starts.of.items c.in-Ok-starts_of.starts.end c.in-Ok-starts_of.ensures.starts c.in-Ok-starts_of.ensures.end c.requires.room (omega arith)

pub image_of-requires-clause-low : goal.image_of-requires-clause-low
image_of-requires-clause-low c =
    low c.args.g.now c.in-Ok.places.of.items (c.in-Ok.ensures ∙ ap (λ xs. addresses_from 0x4400 xs) c.as_slice-objects.ensures) c.requires.rules (head_in c.args.heads.now) c.args.nodes.now c.requires.nodes
    c.in-Ok-starts_of.starts.of.items c.in-Ok-starts_of.starts.end c.in-Ok-starts_of.ensures.starts c.in-Ok-starts_of.ensures.end (omega arith)

pub image_of-requires-clause-room : goal.image_of-requires-clause-room
image_of-requires-clause-room c =
    roomy c.args.g.now c.in-Ok.places.of.items (c.in-Ok.ensures ∙ ap (λ xs. addresses_from 0x4400 xs) c.as_slice-objects.ensures) c.requires.rules (head_in c.args.heads.now) c.args.nodes.now c.requires.nodes
    c.in-Ok-starts_of.starts.of.items c.in-Ok-starts_of.starts.end c.in-Ok-starts_of.ensures.starts c.in-Ok-starts_of.ensures.end (omega arith)

pub image_of-requires-clause-is_image : goal.image_of-requires-clause-is_image
image_of-requires-clause-is_image c =
    image_with c.args.g.now c.in-Ok.places.of.items (c.in-Ok.ensures ∙ ap (λ xs. addresses_from 0x4400 xs) c.as_slice-objects.ensures) c.requires.rules (head_in c.args.heads.now) c.args.nodes.now c.requires.nodes
    c.in-Ok-starts_of.starts.of.items c.in-Ok-starts_of.starts.end c.in-Ok-starts_of.ensures.starts c.in-Ok-starts_of.ensures.end c.as_slice-objects.result.now c.as_slice-objects.ensures c.requires.room (omega arith)

pub returns-in-Ok-image_of-clause-laid : goal.returns-in-Ok-image_of-clause-laid
returns-in-Ok-image_of-clause-laid c =
    laid_image c.args.g.now c.in-Ok.places.of.items (c.in-Ok.ensures ∙ ap (λ xs. addresses_from 0x4400 xs) c.as_slice-objects.ensures) c.requires.rules (head_in c.args.heads.now) c.args.nodes.now c.requires.nodes
    c.in-Ok-starts_of.starts.of.items c.in-Ok-starts_of.starts.end c.in-Ok-starts_of.ensures.starts c.in-Ok-starts_of.ensures.end c.as_slice-objects.result.now c.as_slice-objects.ensures c.requires.room (omega arith) _ c.in-Ok-image_of.ensures
