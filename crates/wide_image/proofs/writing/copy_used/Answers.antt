use Rattle.std.proofs.Common.{◌≡◌, ◌+◌, ◌++◌, length, length-append, append_assoc, take, drop, ap, ◌∙◌}
use Rattle.std.specs.List.{splice}
use Rattle.memory_image.specs.Spelling.{number, role_bytes}
use Rattle.memory_image.proofs.SpellingLemmas.{role_wide}
use Rattle.wide_image.proofs.WrittenWhole.{copied}
use Rattle.wide_image.proofs.writing.copy_used.Goals as goal

pub returns-clause-record : goal.returns-clause-record
returns-clause-record c =
    let head : c.deref.result.now ≡ number c.args.frame ++ role_bytes c.args.role = c.deref.ensures.0 ∙ c.record_of.ensures ∙ c.frame_numbers.ensures in
    let w = role_wide c.args.role in
    let x = length-append (number c.args.frame) (role_bytes c.args.role) in
    let twenty : length c.deref.result.now ≡ 20 = ap length head ∙ x ∙ (λ i. 4 + w i) in
    let all : c.copy_to-2.new.bytes ≡ splice (splice c.args.bytes.now 0 20 c.deref.result.now) 20 4116 c.args.part.now =
    c.copy_to-2.ensures
    ∙ (λ i. splice (c.copy_to.ensures i) 20 (20 + c.requires.part i) c.args.part.now)
    ∙ (λ i. splice (splice c.args.bytes.now 0 (0 + twenty i) c.deref.result.now) 20 4116 c.args.part.now) in
    ap (take 4116) all ∙ (copied c.args.bytes.now c.deref.result.now c.args.part.now twenty c.requires.part).0
    ∙ ap (λ h. h ++ c.args.part.now) head ∙ append_assoc (number c.args.frame) (role_bytes c.args.role) c.args.part.now

pub returns-clause-behind : goal.returns-clause-behind
returns-clause-behind c =
    let head : c.deref.result.now ≡ number c.args.frame ++ role_bytes c.args.role = c.deref.ensures.0 ∙ c.record_of.ensures ∙ c.frame_numbers.ensures in
    let w = role_wide c.args.role in
    let x = length-append (number c.args.frame) (role_bytes c.args.role) in
    let twenty : length c.deref.result.now ≡ 20 = ap length head ∙ x ∙ (λ i. 4 + w i) in
    let all : c.copy_to-2.new.bytes ≡ splice (splice c.args.bytes.now 0 20 c.deref.result.now) 20 4116 c.args.part.now =
    c.copy_to-2.ensures
    ∙ (λ i. splice (c.copy_to.ensures i) 20 (20 + c.requires.part i) c.args.part.now)
    ∙ (λ i. splice (splice c.args.bytes.now 0 (0 + twenty i) c.deref.result.now) 20 4116 c.args.part.now) in
    ap (drop 4116) all ∙ (copied c.args.bytes.now c.deref.result.now c.args.part.now twenty c.requires.part).1
