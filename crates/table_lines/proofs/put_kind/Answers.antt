-- `table_lines::put_kind` meets its contract: the texts of mode and profile, one behind the other. Assumes nothing.
use mathlib.Core.Path.{◌≡◌, ap₂, sym, subst}
use mathlib.Core.List.{◌++◌}
use Rattle.fields.specs.Numbers.{Bytes}
use Rattle.rules.specs.Listing.{line_feed}
use Rattle.rules.specs.Whole.{decode_whole}
use Rattle.rules.specs.declared.Mode.{Mode}
use Rattle.rules.specs.declared.Profile.{Profile}
use Rattle.listing_room.specs.Room.{Ends}
use Rattle.listing_room.proofs.Room.{Put, ends-first, ends-three, ends-two, three}
use Rattle.table_listing.specs.TableListing.{kind_line, mode_text, profile_text}
use Rattle.table_lines.proofs.put_kind.Goals as goal

-- the line by what was read
abbrev line : (mode : Mode) (profile : Profile) → Bytes
line m p = mode_text m ++ (profile_text p ++ line_feed)

pub put_mode-m-requires : goal.put_mode-m-requires
unfolding kind_line
put_mode-m-requires c =
    let mode : Bytes = mode_text c.mode_of-mode.result in
    let profile : Bytes = profile_text c.profile_of-profile.result in
    let line-is : mode ++ (profile ++ line_feed) ≡ kind_line (decode_whole c.args.table.now).kind = ap₂ line c.mode_of-mode.ensures c.profile_of-profile.ensures in
    let ends : Ends c.args.at (mode ++ (profile ++ line_feed)) = subst (Ends c.args.at) (sym (line-is)) c.requires.1 in
    ends-first c.args.at (mode) (profile ++ line_feed) (ends)

pub put_profile-n-requires : goal.put_profile-n-requires
unfolding kind_line
put_profile-n-requires c =
    let mode : Bytes = mode_text c.mode_of-mode.result in
    let profile : Bytes = profile_text c.profile_of-profile.result in
    let line-is : mode ++ (profile ++ line_feed) ≡ kind_line (decode_whole c.args.table.now).kind = ap₂ line c.mode_of-mode.ensures c.profile_of-profile.ensures in
    let ends : Ends c.args.at (mode ++ (profile ++ line_feed)) = subst (Ends c.args.at) (sym (line-is)) c.requires.1 in
    ends-two c.args.at (mode) (profile) line_feed c.args.out.now _ _ (ends) c.put_mode-m.ensures

pub put_text-requires : goal.put_text-requires
unfolding kind_line
put_text-requires c =
    let mode : Bytes = mode_text c.mode_of-mode.result in
    let profile : Bytes = profile_text c.profile_of-profile.result in
    let line-is : mode ++ (profile ++ line_feed) ≡ kind_line (decode_whole c.args.table.now).kind = ap₂ line c.mode_of-mode.ensures c.profile_of-profile.ensures in
    let ends : Ends c.args.at (mode ++ (profile ++ line_feed)) = subst (Ends c.args.at) (sym (line-is)) c.requires.1 in
    ends-three c.args.at (mode) (profile) line_feed c.args.out.now _ _ (ends) c.put_mode-m.ensures _ _ c.put_profile-n.ensures

pub returns : goal.returns
unfolding kind_line
returns c =
    let mode : Bytes = mode_text c.mode_of-mode.result in
    let profile : Bytes = profile_text c.profile_of-profile.result in
    let line-is : mode ++ (profile ++ line_feed) ≡ kind_line (decode_whole c.args.table.now).kind = ap₂ line c.mode_of-mode.ensures c.profile_of-profile.ensures in
    let ends : Ends c.args.at (mode ++ (profile ++ line_feed)) = subst (Ends c.args.at) (sym (line-is)) c.requires.1 in
    let end = c.put_text in
    subst (λ (t : Bytes). Put c.args.at t c.args.out.now end.new.out end.result) (line-is)
    (three c.args.at (mode) (profile) line_feed c.args.out.now _ _ (ends) c.put_mode-m.ensures _ _ c.put_profile-n.ensures _ _
    end.ensures)
