use Rattle.std.proofs.Common.{ap}
use Rattle.codec_calls.specs.declared.call.CallData.{CallData}
use Rattle.vfs_files.specs.Calls.{Bmap, Destroy, Getlk, Init, Ioctl, NotifyReply, Poll, Setlk, Setlkw, Tmpfile}
use Rattle.laws_flight.proofs.numbers.calls_that_are_told_by_number.Goals as goal

pub returns-clause-init : goal.returns-clause-init
returns-clause-init c = λ request told echo capable is.
    let row = (c.the_table_says_what_is_told.ensures.says request echo (Init capable) told).0 is in (
      ap (λ (d : CallData). d.call) row,
      ap (λ (d : CallData). d.answer) row,
      ap (λ (d : CallData). d.length) row,
      ap (λ (d : CallData). d.node) row,
    )

pub returns-clause-getlk : goal.returns-clause-getlk
returns-clause-getlk c = λ request told echo is.
    let row = (c.the_table_says_what_is_told.ensures.says request echo Getlk told).0 is in
    (ap (λ (d : CallData). d.call) row, ap (λ (d : CallData). d.answer) row, ap (λ (d : CallData). d.node) row)

pub returns-clause-setlk : goal.returns-clause-setlk
returns-clause-setlk c = λ request told echo is.
    let row = (c.the_table_says_what_is_told.ensures.says request echo Setlk told).0 is in
    (ap (λ (d : CallData). d.call) row, ap (λ (d : CallData). d.answer) row, ap (λ (d : CallData). d.node) row)

pub returns-clause-setlkw : goal.returns-clause-setlkw
returns-clause-setlkw c = λ request told echo is.
    let row = (c.the_table_says_what_is_told.ensures.says request echo Setlkw told).0 is in
    (ap (λ (d : CallData). d.call) row, ap (λ (d : CallData). d.answer) row, ap (λ (d : CallData). d.node) row)

pub returns-clause-bmap : goal.returns-clause-bmap
returns-clause-bmap c = λ request told echo is.
    let row = (c.the_table_says_what_is_told.ensures.says request echo Bmap told).0 is in
    (ap (λ (d : CallData). d.call) row, ap (λ (d : CallData). d.answer) row, ap (λ (d : CallData). d.node) row)

pub returns-clause-destroy : goal.returns-clause-destroy
returns-clause-destroy c = λ request told echo is.
    let row = (c.the_table_says_what_is_told.ensures.says request echo Destroy told).0 is in
    (ap (λ (d : CallData). d.call) row, ap (λ (d : CallData). d.answer) row, ap (λ (d : CallData). d.node) row)

pub returns-clause-ioctl : goal.returns-clause-ioctl
returns-clause-ioctl c = λ request told echo is.
    let row = (c.the_table_says_what_is_told.ensures.says request echo Ioctl told).0 is in
    (ap (λ (d : CallData). d.call) row, ap (λ (d : CallData). d.answer) row, ap (λ (d : CallData). d.node) row)

pub returns-clause-poll : goal.returns-clause-poll
returns-clause-poll c = λ request told echo is.
    let row = (c.the_table_says_what_is_told.ensures.says request echo Poll told).0 is in
    (ap (λ (d : CallData). d.call) row, ap (λ (d : CallData). d.answer) row, ap (λ (d : CallData). d.node) row)

pub returns-clause-notify_reply : goal.returns-clause-notify_reply
returns-clause-notify_reply c = λ request told echo is.
    let row = (c.the_table_says_what_is_told.ensures.says request echo NotifyReply told).0 is in
    (ap (λ (d : CallData). d.call) row, ap (λ (d : CallData). d.answer) row, ap (λ (d : CallData). d.node) row)

pub returns-clause-tmpfile : goal.returns-clause-tmpfile
returns-clause-tmpfile c = λ request told echo is.
    let row = (c.the_table_says_what_is_told.ensures.says request echo Tmpfile told).0 is in
    (ap (λ (d : CallData). d.call) row, ap (λ (d : CallData). d.answer) row, ap (λ (d : CallData). d.node) row)
