mod FreedTwice
