-- `export::byte_of` meets its contract: k lies in the counts, a job, a section or a link.
use Rattle.std.proofs.Common.{rules}
use Rattle.paper.specs.Room.{no_job, no_section, no_link}
use Rattle.export.proofs.Bytes.{job_byte, section_byte, link_byte}
use Rattle.export.proofs.byte_of.Goals as goal

pub returns-in-4-to-67 : goal.returns-in-4-to-67
returns-in-4-to-67 c = job_byte _ _ (search rules) (search rules) (c.entry_byte.ensures no_job)

pub returns-in-68-to-195 : goal.returns-in-68-to-195
returns-in-68-to-195 c = section_byte _ _ (search rules) (search rules) (c.entry_byte-in-68-to-195.ensures no_section)

pub returns-in_default : goal.returns-in_default
returns-in_default c = link_byte _ _ (search rules) (c.entry_byte-in_default.ensures no_link)
