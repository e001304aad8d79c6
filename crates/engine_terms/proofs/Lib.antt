mod InlineTexts
