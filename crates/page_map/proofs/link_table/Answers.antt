use Rattle.page_map.proofs.Prelude
use Prelude.{◌≡◌, ◌<◌, ◌^◌, ℕ, ap, ◌∙◌, arith, replicate, frame_bytes, with_frame, with_word_in, length-replicate, frames-with_frame_bytes, with_table}
use Rattle.page_map.proofs.Steps.{linked}
use Rattle.page_map.proofs.MapChanges.{link-map, link-entries, link-foreign}
use Rattle.page_map.proofs.link_table.Goals as goal
use Rattle.page_map.proofs.link_table.Goals.{After-set_word}

few : (c : goal.After-set_word) → c.args.table < 2 ^ 20
few c = omega (arith, c.frames-frames.ensures.length, c.frames-frames.ensures.most, c.requires.inside)

frames : (c : goal.After-set_word) → frame_bytes c.set_word.new.memory ≡ with_table (frame_bytes c.args.memory.now) c.args.directory c.args.slot c.args.table
frames c =
    linked (frame_bytes c.args.memory.now) (frame_bytes c.zero_frame.new.self) (frame_bytes c.set_word.new.memory) c.args.directory c.args.slot c.args.table c.linking.result c.requires.apart
    (ap frame_bytes c.zero_frame.ensures.bytes ∙ frames-with_frame_bytes c.args.memory.now (replicate 4096 0) c.args.table c.requires.inside (length-replicate {A = ℕ} 4096 0))
    c.set_word.ensures.frames
    ∙ ap (λ word. with_frame (with_frame (frame_bytes c.args.memory.now) c.args.table (replicate 4096 0)) c.args.directory (with_word_in (frame_bytes c.args.memory.now c.args.directory) c.args.slot word)) c.linking.ensures

pub returns-clause-frames : goal.returns-clause-frames
returns-clause-frames c = frames c

pub returns-clause-entries : goal.returns-clause-entries
returns-clause-entries c = link-entries c.args.memory.now c.set_word.new.memory c.args.directory c.args.slot c.args.table c.requires.map c.requires.slot c.requires.inside (few c) c.requires.apart (frames c)

pub returns-clause-map : goal.returns-clause-map
returns-clause-map c = link-map c.args.memory.now c.set_word.new.memory c.args.directory c.args.slot c.args.table c.requires.map c.requires.slot c.requires.inside (few c) c.requires.apart (frames c) (c.set_word.ensures.length ∙ c.zero_frame.ensures.length)

pub returns-clause-foreign : goal.returns-clause-foreign
returns-clause-foreign c = link-foreign c.args.memory.now c.set_word.new.memory c.args.directory c.args.slot c.args.table c.requires.map c.requires.slot c.requires.inside (few c) c.requires.apart (frames c)
