use Rattle.std.proofs.Common.{◌*◌, sym, ◌∙◌}
use Rattle.page_map.specs.Pages.{count_range}
use Rattle.image_check.specs.Counts.{is_this, frame_of}
use Rattle.image_check.specs.Adds.{words_naming}
use Rattle.image_check.proofs.AddLemmas.{adds_alike, adds_nothing}
use Rattle.image_check.proofs.SlotLemmas.{pages_in_table, pages_without_table, maps_in_table, maps_without_table}
use Rattle.image_check.proofs.walking.walk_pages.Goals as goal

pub returns-in-Some-clause-words : goal.returns-in-Some-clause-words
returns-in-Some-clause-words c = c.walk_table-found.ensures.words ∙ pages_in_table c.args.image.now c.args.pid c.args.slot c.in-Some.table c.within.ensures.size (sym c.requires.table ∙ c.in-Some.is)

pub returns-in-Some-clause-maps : goal.returns-in-Some-clause-maps
returns-in-Some-clause-maps c =
    adds_alike c.args.maps.now c.walk_table-found.new.maps (λ f. words_naming c.args.image.now c.in-Some.table f) (λ f. count_range (λ page. is_this f (frame_of c.args.image.now c.args.pid page)) (1024 * c.args.slot) 1024)
    (λ f. maps_in_table c.args.image.now c.args.pid c.args.slot c.in-Some.table f c.within.ensures.size (sym c.requires.table ∙ c.in-Some.is)) c.walk_table-found.ensures.maps

pub returns-in-None-clause-words : goal.returns-in-None-clause-words
returns-in-None-clause-words c = sym (pages_without_table c.args.image.now c.args.pid c.args.slot (sym c.requires.table ∙ c.in-None.is))

pub returns-in-None-clause-maps : goal.returns-in-None-clause-maps
returns-in-None-clause-maps c =
    adds_nothing c.args.maps.now (λ f. count_range (λ page. is_this f (frame_of c.args.image.now c.args.pid page)) (1024 * c.args.slot) 1024)
    (λ f. maps_without_table c.args.image.now c.args.pid c.args.slot f (sym c.requires.table ∙ c.in-None.is))
