-- The worked examples hold of the rules: each side of each row is computed.
use mathlib.Core.Path.{refl}
use Rattle.geometry.specs.Refusal.{answer}
use Rattle.geometry.specs.Point.{along}
use Rattle.geometry.specs.Axes.{same}
use Rattle.geometry.specs.Checks.{proper_sign}
use Rattle.geometry.specs.Quad.{minimum_within_limits, side_within_limits, within_limits}
use Rattle.geometry.specs.Lists.{Each}
use Rattle.voxels.specs.Checks.{bad_faces_from}
use Rattle.listing.specs.Listing.{joined, overwritten, capacity}
use Rattle.listing.specs.Cut
use Rattle.greedy.specs.Call.{quad_from}
use Rattle.writing.specs.Handed.{oriented, numbered, handed, total, handed_checks}
use Rattle.writing.specs.Written.{written_after}
use Rattle.saved.specs.Bytes.{written, number, pieces}
use Rattle.saved.specs.Form.{head_count, face_byte, without_sign, sign_of, face_of}
use Rattle.saved.specs.Layout.{head_records, group_bytes, bytes}
use Rattle.saved.specs.Read.{records_in, after_section, ends_early, same_numbers, wrong_head, section_checks, file_checks, face_bytes_in, quads_in, groups_in, mesh_in, bad_face_bytes_from, mesh_quads, read_checks, parse}
use Rattle.saved.specs.Saved.{handed_mesh, write_form, write_saved, fitting, read_form, read_saved}
use Rattle.saved.specs.Where.{from_section_in, from_quad_in, from_section, from_quad, from_refusal, refusal_byte}
use Rattle.saved.specs.Examples.{empty, on_pos_x, six, four, widely, high, otherwise, Reads, readings, Writes, writings, Stands, standings}

pub reads_hold : Each Reads readings
unfolding readings Each empty on_pos_x six four widely high otherwise read_saved read_form fitting overwritten capacity answer parse read_checks file_checks section_checks wrong_head same_numbers ends_early after_section records_in face_bytes_in bad_face_bytes_from quads_in groups_in mesh_in mesh_quads oriented numbered head_count face_of sign_of without_sign pieces number quad_from joined within_limits minimum_within_limits side_within_limits along same
reads_hold = (refl, (refl, (refl, (refl, (refl, (refl, (refl, (refl, (refl, (refl, (refl, (refl, (refl, (refl, (refl, (refl, (refl, (refl, (refl, (refl, (refl, (refl, (refl, (refl, (refl, (refl, (refl, (refl, (refl, (refl, (refl, (refl, (refl, (refl, (refl, (refl, (refl, (refl, (refl, (refl, (refl, (refl, (refl, (refl, tt))))))))))))))))))))))))))))))))))))))))))))

pub writes_hold : Each Writes writings
unfolding writings Each empty on_pos_x six four widely otherwise write_saved write_form written_after overwritten capacity answer handed_checks handed handed_mesh Cut.groups_in Cut.items_in total bad_faces_from proper_sign same oriented numbered quad_from within_limits minimum_within_limits side_within_limits along bytes head_records head_count group_bytes face_byte written joined
writes_hold = (refl, (refl, (refl, (refl, (refl, (refl, (refl, (refl, (refl, (refl, (refl, (refl, (refl, (refl, (refl, (refl, tt))))))))))))))))

pub places_hold : Each Stands standings
unfolding standings Each empty on_pos_x six four refusal_byte from_refusal from_section from_section_in from_quad from_quad_in after_section number
places_hold = (refl, (refl, (refl, (refl, (refl, (refl, (refl, (refl, (refl, (refl, (refl, (refl, (refl, (refl, (refl, (refl, tt))))))))))))))))
